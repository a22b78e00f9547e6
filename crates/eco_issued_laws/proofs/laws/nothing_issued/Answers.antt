use Rattle.eco_issued_laws.proofs.Withdrawing.{nothing_issued as law}
use Rattle.eco_issued_laws.proofs.laws.nothing_issued.Goals as goal

pub returns : goal.returns
returns c = law
