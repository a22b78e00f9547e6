use Rattle.eco_def.proofs.LimitLaws.{limits_law}
use Rattle.eco_def.proofs.read.limits_keep.Goals as goal

pub returns : goal.returns
returns c = limits_law
