use Rattle.eco_issued_laws.proofs.Issuing.{designs_bounded as law}
use Rattle.eco_issued_laws.proofs.laws.designs_are_bounded.Goals as goal

pub returns : goal.returns
returns c = law
