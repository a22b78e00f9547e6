use Rattle.eco_issued_laws.proofs.Withdrawing.{standing_issued as law}
use Rattle.eco_issued_laws.proofs.laws.standing_issued.Goals as goal

pub returns : goal.returns
returns c = law
