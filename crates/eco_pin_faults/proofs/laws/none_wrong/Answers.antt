use Rattle.eco_pin_faults.proofs.Listed as law
use Rattle.eco_pin_faults.proofs.laws.none_wrong.Goals as goal

pub returns : goal.returns
returns c = law.none_wrong
