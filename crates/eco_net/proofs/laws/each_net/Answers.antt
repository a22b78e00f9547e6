use Rattle.eco_net.proofs.Keys.{each_net as each}
use Rattle.eco_net.proofs.laws.each_net.Goals as goal

pub returns : goal.returns
returns c = each
