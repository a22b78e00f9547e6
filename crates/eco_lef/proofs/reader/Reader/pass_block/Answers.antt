use Rattle.std.proofs.Common.{◌≡◌, false, refl, sym, arith, ◌∙◌}
use Rattle.std.proofs.lemmas.Result.{err_from_is_err_and}
use Rattle.eco_lef.specs.Parsing.{begins}
use Rattle.eco_text.specs.Tokens.{is_word}
use Rattle.eco_lef.specs.Reading.{left}
use Rattle.eco_lef.proofs.Passing.{block_goes_on, block_fails, not_ended}
use Rattle.eco_lef.proofs.reader.Reader.pass_block.Goals as goal

pub returns-in_err-pass_to : goal.returns-in_err-pass_to
returns-in_err-pass_to c =
    let p = err_from_is_err_and c.from_residual.result c.from_residual.ensures.1 in
    rw (p.1, p.2) (block_fails c.args.block.now c.args.self.now.words c.args.self.now.words c.pass_to.new.self.words c.in_err-pass_to.field-0.0 refl refl c.in_err-pass_to.ensures)

pub ends-init : goal.ends-init
ends-init c =
    let e = c.in_ok-pass_to.ensures in
    (e.text, e.shorter, e.order, block_goes_on c.args.block.now c.args.self.now.words c.pass_to.new.self.words c.in_ok-pass_to.field-0 e)

pub ends-preserved : goal.ends-preserved
ends-preserved c =
    let i = c.ends.invariant in
    let e = c.in_ok-pass_to-2.ensures in
    let off : begins (is_word c.args.block.now) (left c.ends.self.words) ≡ false = sym c.next_is.ensures ∙ c.ends-test.true in (
      e.text ∙ i.0,
      omega (arith, e.shorter, i.1),
      λ lo hi o. e.order lo hi (i.2 lo hi o),
      block_goes_on c.args.block.now c.ends.self.words c.pass_to-in-ends.new.self.words c.in_ok-pass_to-2.field-0 e ∙ sym (not_ended c.args.block.now (left c.ends.self.words) off) ∙ i.3,
    )

pub returns-in_err-pass_to-2 : goal.returns-in_err-pass_to-2
returns-in_err-pass_to-2 c =
    let i = c.ends.invariant in
    let off : begins (is_word c.args.block.now) (left c.ends.self.words) ≡ false = sym c.next_is.ensures ∙ c.ends-test.true in
    let p = err_from_is_err_and c.from_residual-in_err-pass_to-2.result c.from_residual-in_err-pass_to-2.ensures.1 in
    rw (p.1, p.2)
    (block_fails c.args.block.now c.args.self.now.words c.ends.self.words c.pass_to-in-ends.new.self.words c.in_err-pass_to-2.field-0.0 i.0
    (sym (not_ended c.args.block.now (left c.ends.self.words) off) ∙ i.3) c.in_err-pass_to-2.ensures)
