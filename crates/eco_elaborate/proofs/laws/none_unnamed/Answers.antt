use Rattle.eco_elaborate.proofs.Keeping as keeping
use Rattle.eco_elaborate.proofs.laws.none_unnamed.Goals as goal

pub returns : goal.returns
returns c = keeping.none_unnamed
