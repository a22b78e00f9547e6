use Rattle.eco_elaborate.proofs.Keeping as keeping
use Rattle.eco_elaborate.proofs.laws.still_consistent.Goals as goal

pub returns : goal.returns
returns c = keeping.still_consistent
