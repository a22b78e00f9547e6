use Rattle.eco_elaborate.proofs.ReadingBack.{issued_reads_back}
use Rattle.eco_elaborate.proofs.laws.issued_reads_back.Goals as goal

pub returns : goal.returns
returns c = issued_reads_back
