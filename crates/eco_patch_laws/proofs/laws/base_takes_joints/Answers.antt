use Rattle.eco_patch_laws.proofs.Taking.{base_takes_joints as takes}
use Rattle.eco_patch_laws.proofs.laws.base_takes_joints.Goals as goal

pub returns : goal.returns
returns c = takes
