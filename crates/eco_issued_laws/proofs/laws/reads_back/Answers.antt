use Rattle.eco_issued_laws.proofs.Issuing.{reads_back as back}
use Rattle.eco_issued_laws.proofs.laws.reads_back.Goals as goal

pub returns : goal.returns
returns c = back
