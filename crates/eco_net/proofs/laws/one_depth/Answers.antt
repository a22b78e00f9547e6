use Rattle.eco_net.proofs.Depths.{one_depth as one}
use Rattle.eco_net.proofs.laws.one_depth.Goals as goal

pub returns : goal.returns
returns c = one
