use Rattle.eco_pin_faults.proofs.Known as law
use Rattle.eco_pin_faults.proofs.laws.differing_is.Goals as goal

pub returns : goal.returns
returns c = law.differing_is
