use Rattle.std.proofs.Common.{◌++◌, drop, ap, ◌∙◌}
use Rattle.eco_text.proofs.DigitSteps.{six_filled, zeros}
use Rattle.eco_text.proofs.numbers.six_decimals.Goals as goal

pub returns : goal.returns
returns c = ap (λ k. k ++ drop c.min-kept.result zeros) c.copy_from_slice.ensures.after ∙ six_filled c.args.digits.now c.min-kept.result c.min-kept.ensures
