use Rattle.std.proofs.Common.{length-take, sym, arith}
use Rattle.std.proofs.lemmas.List.{take_all}
use Rattle.eco_func.proofs.expression.readable.Goals as goal

pub slice_bounds-result-end : goal.slice_bounds-result-end
slice_bounds-result-end c = omega (arith, length-take 4096 c.args.text.now, c.if-text-le-MAX_EXPRESSION_BYTES.false)

pub returns-then-text-le-MAX_EXPRESSION_BYTES : goal.returns-then-text-le-MAX_EXPRESSION_BYTES
returns-then-text-le-MAX_EXPRESSION_BYTES c = record { value = sym (take_all 4096 c.args.text.now c.if-text-le-MAX_EXPRESSION_BYTES.true); few = c.if-text-le-MAX_EXPRESSION_BYTES.true }

pub returns-else-text-le-MAX_EXPRESSION_BYTES-clause-few : goal.returns-else-text-le-MAX_EXPRESSION_BYTES-clause-few
returns-else-text-le-MAX_EXPRESSION_BYTES-clause-few c = omega (arith, length-take 4096 c.args.text.now)
