use Rattle.std.proofs.Common.{ap, sym, ◌∙◌}
use Rattle.eco_func.specs.Tables.{bit}
use Rattle.eco_func.specs.Expressions.{applied as apply}
use Rattle.eco_func.proofs.WordBits.{and_bit, or_bit, xor_bit}
use Rattle.eco_func.proofs.expression.applied.Goals as goal

pub returns-in-And : goal.returns-in-And
returns-in-And c = λ r. and_bit c.args.left c.args.right r ∙ ap (λ o. apply o (bit c.args.left r) (bit c.args.right r)) (sym c.in-And.is)

pub returns-in-Xor : goal.returns-in-Xor
returns-in-Xor c = λ r. xor_bit c.args.left c.args.right r ∙ ap (λ o. apply o (bit c.args.left r) (bit c.args.right r)) (sym c.in-Xor.is)

pub returns-in-Or : goal.returns-in-Or
returns-in-Or c = λ r. or_bit c.args.left c.args.right r ∙ ap (λ o. apply o (bit c.args.left r) (bit c.args.right r)) (sym c.in-Or.is)
