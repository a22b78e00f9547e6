use Rattle.std.proofs.Common.{refl}
use Rattle.eco_match.specs.Work.{rank_at}
use Rattle.eco_match.proofs.work.rank_of.Goals as goal

pub returns : goal.returns
unfolding rank_at
returns c = refl
