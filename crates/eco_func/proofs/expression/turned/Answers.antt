use Rattle.std.proofs.Common.{arith}
use Rattle.eco_func.proofs.WordBits.{not_bit}
use Rattle.eco_func.proofs.expression.turned.Goals as goal

pub returns : goal.returns
returns c = λ r h. not_bit c.args.word r (omega (arith, c.ranges.word)) h
