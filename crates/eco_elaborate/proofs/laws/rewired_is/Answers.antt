use Rattle.eco_elaborate.proofs.Rewiring as rewiring
use Rattle.eco_elaborate.proofs.laws.rewired_is.Goals as goal

pub returns : goal.returns
returns c = rewiring.rewired_is
