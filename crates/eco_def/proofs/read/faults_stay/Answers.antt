use Rattle.eco_def.proofs.LimitLaws.{faults_law}
use Rattle.eco_def.proofs.read.faults_stay.Goals as goal

pub returns : goal.returns
returns c = faults_law
