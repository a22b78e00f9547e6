use Rattle.eco_pin_faults.proofs.Known as law
use Rattle.eco_pin_faults.proofs.laws.one_net.Goals as goal

pub returns : goal.returns
returns c = law.one_net
