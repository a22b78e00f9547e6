use Rattle.eco_lef.proofs.Limits.{limits_keep}
use Rattle.eco_lef.proofs.limits_keep_libraries.Goals as goal

pub returns : goal.returns
returns c = limits_keep
