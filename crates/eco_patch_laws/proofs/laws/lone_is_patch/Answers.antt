use Rattle.eco_patch_laws.proofs.Alone.{is_patch}
use Rattle.eco_patch_laws.proofs.laws.lone_is_patch.Goals as goal

pub returns : goal.returns
returns c = is_patch
