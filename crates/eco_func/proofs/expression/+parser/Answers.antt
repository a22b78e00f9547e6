use Rattle.std.proofs.Common.{◌≡◌, ℕ, suc, ◌-◌, length, Ok, ap, ◌∙◌, arith}
use Rattle.std.proofs.lemmas.Result.{err_from_is_err_and}
use Rattle.eco_func.specs.Expressions.{Not, name, closed, then_read, part_of, operand as operand_of}
use Rattle.eco_func.proofs.Chains.{begun, further, refused, ended, moved, turned, nested, plain}
use Rattle.eco_func.proofs.expression.+parser.Goals as goal

pub chain-loop-more-init : goal.chain-loop-more-init
chain-loop-more-init t c =
    begun c.args.inputs.now c.args.operator (part_of c.args.operator (operand_of c.args.depth)) c.args.text.now c.in_ok-left.left c.in_ok-left.rest.now
    c.behind_blanks-rest.result.now c.in_ok-left.ensures c.behind_blanks-rest.ensures.rest c.behind_blanks-rest.ensures.shorter

pub chain-loop-more-preserved : goal.chain-loop-more-preserved
chain-loop-more-preserved t c =
    further c.args.inputs.now c.args.operator (part_of c.args.operator (operand_of c.args.depth)) c.args.text.now c.loop-more.left c.in_ok-right.right c.joined-left.result
    c.loop-more.rest.now c.in-Some.more.now c.in_ok-right.behind.now c.behind_blanks-rest-in-Some.result.now
    c.loop-more.invariant c.in-Some.ensures c.in_ok-right.ensures c.joined-left.ensures c.behind_blanks-rest-in-Some.ensures.rest c.behind_blanks-rest-in-Some.ensures.shorter

pub chain-returns : goal.chain-returns
chain-returns t c =
    ended c.args.inputs.now c.args.operator (part_of c.args.operator (operand_of c.args.depth)) c.args.text.now c.loop-more.left c.loop-more.rest.now c.loop-more.invariant c.in_default.ensures

pub chain-returns-in_err-right : goal.chain-returns-in_err-right
chain-returns-in_err-right t c =
    let p = err_from_is_err_and c.from_residual-in_err-right.result c.from_residual-in_err-right.ensures.1 in
    rw (p.1, p.2) (refused c.args.inputs.now c.args.operator (part_of c.args.operator (operand_of c.args.depth)) c.args.text.now c.loop-more.left c.loop-more.rest.now
    c.in-Some.more.now c.in_err-right.field-0.0.now c.loop-more.invariant c.in-Some.ensures c.in_err-right.ensures)

pub operand-returns-in-Some : goal.operand-returns-in-Some
operand-returns-in-Some t c =
    let n : ℕ = c.args.depth - 1 in
    let deep : c.args.depth ≡ suc n = omega (arith, c.if-depth-eq0.false) in
    let inner = c.in_ok-inner.ensures in
    let front : length c.behind_blanks-text.result.now ≡ suc (length c.in-Some.rest.now) = ap length c.in-Some.ensures in
    record {
      expression = Not inner.expression;
      said = turned c.args.depth n deep c.args.text.now c.behind_blanks-text.result.now c.behind_blanks-text.ensures.rest c.in-Some.rest.now c.in-Some.ensures
          ∙ ap (λ r. then_read r (λ e rest. Ok (Not e, rest))) inner.said;
      is = c.negated.ensures c.args.inputs.now inner.expression inner.is;
      shorter = omega (arith, inner.shorter, front, c.behind_blanks-text.ensures.shorter);
    }

pub operand-returns-in_err-inner-2 : goal.operand-returns-in_err-inner-2
operand-returns-in_err-inner-2 t c =
    let n : ℕ = c.args.depth - 1 in
    let deep : c.args.depth ≡ suc n = omega (arith, c.if-depth-eq0.false) in
    let p = err_from_is_err_and c.from_residual-in_err-inner-2.result c.from_residual-in_err-inner-2.ensures.1 in
    let front : length c.behind_blanks-text.result.now ≡ suc (length c.in-Some-behind_byte.rest.now) = ap length c.in-Some-behind_byte.ensures in
    rw (p.1, p.2) (
      nested c.args.depth n deep c.args.text.now c.behind_blanks-text.result.now c.behind_blanks-text.ensures.rest c.in-Some-behind_byte.rest.now c.in-Some-behind_byte.ensures
          ∙ ap (λ r. then_read r closed) c.in_err-inner-2.ensures.0,
      omega (arith, c.in_err-inner-2.ensures.1, front, c.behind_blanks-text.ensures.shorter),
    )

pub operand-returns-in-Some-behind_byte : goal.operand-returns-in-Some-behind_byte
operand-returns-in-Some-behind_byte t c =
    let n : ℕ = c.args.depth - 1 in
    let deep : c.args.depth ≡ suc n = omega (arith, c.if-depth-eq0.false) in
    let inner = c.in_ok-inner-2.ensures in
    let front : length c.behind_blanks-text.result.now ≡ suc (length c.in-Some-behind_byte.rest.now) = ap length c.in-Some-behind_byte.ensures in
    moved c.args.inputs.now (operand_of c.args.depth) (closed inner.expression) c.args.text.now c.in_ok-inner-2.rest.now
    (nested c.args.depth n deep c.args.text.now c.behind_blanks-text.result.now c.behind_blanks-text.ensures.rest c.in-Some-behind_byte.rest.now c.in-Some-behind_byte.ensures
    ∙ ap (λ r. then_read r closed) inner.said)
    (omega (arith, inner.shorter, front, c.behind_blanks-text.ensures.shorter)) c.closed.result (c.closed.ensures c.args.inputs.now inner.expression inner.is)

pub operand-returns : goal.operand-returns
operand-returns t c =
    let n : ℕ = c.args.depth - 1 in
    let deep : c.args.depth ≡ suc n = omega (arith, c.if-depth-eq0.false) in
    moved c.args.inputs.now (operand_of c.args.depth) name c.args.text.now c.behind_blanks-text.result.now
    (plain c.args.depth n deep c.args.text.now c.behind_blanks-text.result.now c.behind_blanks-text.ensures.rest c.in_default.ensures c.in_default-behind_byte.ensures)
    c.behind_blanks-text.ensures.shorter c.name-2.result c.name-2.ensures
