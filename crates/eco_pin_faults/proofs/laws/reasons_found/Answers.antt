use Rattle.eco_pin_faults.proofs.Known as law
use Rattle.eco_pin_faults.proofs.laws.reasons_found.Goals as goal

pub returns : goal.returns
returns c = law.reasons_found
