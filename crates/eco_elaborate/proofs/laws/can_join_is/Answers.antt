use Rattle.eco_elaborate.proofs.Joinable as joinable
use Rattle.eco_elaborate.proofs.laws.can_join_is.Goals as goal

pub returns : goal.returns
returns c = joinable.can_join_is
