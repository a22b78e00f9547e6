use Rattle.std.proofs.Common.{refl}
use Rattle.eco_match.specs.Work.{via_at}
use Rattle.eco_match.proofs.work.via_of.Goals as goal

pub returns : goal.returns
unfolding via_at
returns c = refl
