use Rattle.eco_elaborate.proofs.Joinable as joinable
use Rattle.eco_elaborate.proofs.laws.still_well_formed.Goals as goal

pub returns : goal.returns
returns c = joinable.still_well_formed
