use Rattle.std.proofs.Common.{arith, rules}
use Rattle.eco_match.proofs.Numbers.{sets-worth}
use Rattle.eco_match.proofs.work.set_worth.Goals as goal

pub returns : goal.returns
returns c = sets-worth c.args.out.now c.args.place c.args.worth _ c.requires.place.0 (omega arith) (search rules)
