use Rattle.std.proofs.Common.{refl}
use Rattle.eco_match.specs.Work.{from_at}
use Rattle.eco_match.proofs.work.from_of.Goals as goal

pub returns : goal.returns
unfolding from_at
returns c = refl
