use Rattle.eco_pin_faults.proofs.TopJoints as law
use Rattle.eco_pin_faults.proofs.laws.tops_agree_is.Goals as goal

pub returns : goal.returns
returns c = law.tops_agree_is
