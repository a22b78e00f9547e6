use Rattle.eco_pin_faults.proofs.Seconds as law
use Rattle.eco_pin_faults.proofs.laws.first_told.Goals as goal

pub returns : goal.returns
returns c = law.first_told
