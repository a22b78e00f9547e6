use Rattle.eco_net.proofs.Keys.{one_cut_key as one}
use Rattle.eco_net.proofs.laws.one_cut_key.Goals as goal

pub returns : goal.returns
returns c = one
