use Rattle.std.proofs.Common.{arith, rules}
use Rattle.eco_match.proofs.Numbers.{sets-price}
use Rattle.eco_match.proofs.work.set_price.Goals as goal

pub returns : goal.returns
returns c = sets-price c.args.out.now c.args.place c.args.price _ c.requires.place.0 (omega arith) (search rules)
