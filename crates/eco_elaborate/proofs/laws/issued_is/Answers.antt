use Rattle.eco_elaborate.proofs.Issuing as issuing
use Rattle.eco_elaborate.proofs.laws.issued_is.Goals as goal

pub returns : goal.returns
returns c = issuing.issued_is
