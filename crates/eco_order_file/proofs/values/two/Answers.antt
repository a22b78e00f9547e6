use Rattle.std.proofs.Common.{arith}
use Rattle.std.proofs.lemmas.Grind.{common_steps}
use Rattle.eco_order_file.proofs.Pairs.{two_of_one, two_of_many}
use Rattle.eco_order_file.proofs.values.two.Goals as goal

pub returns-in-len1 : goal.returns-in-len1
returns-in-len1 c = grind (arith, common_steps, two_of_one)

pub returns-in-len3-up : goal.returns-in-len3-up
returns-in-len3-up c = grind (arith, common_steps, two_of_many)
