use Rattle.std.proofs.Common.{refl}
use Rattle.eco_match.proofs.Numbers.{none-bounded}
use Rattle.eco_match.proofs.solve.clear_worths.Goals as goal

pub returns : goal.returns
returns c = none-bounded _ refl refl
