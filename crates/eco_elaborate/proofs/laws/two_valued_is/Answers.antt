use Rattle.eco_elaborate.proofs.TwoValued as two_valued
use Rattle.eco_elaborate.proofs.laws.two_valued_is.Goals as goal

pub returns : goal.returns
returns c = two_valued.two_valued_is
