use Rattle.eco_net.proofs.One.{one_valuation as one}
use Rattle.eco_net.proofs.laws.one_valuation.Goals as goal

pub returns : goal.returns
returns c = one
