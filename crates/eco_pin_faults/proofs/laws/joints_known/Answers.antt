use Rattle.eco_pin_faults.proofs.Known as law
use Rattle.eco_pin_faults.proofs.laws.joints_known.Goals as goal

pub returns : goal.returns
returns c = law.joints_known
