use Rattle.eco_patch_laws.proofs.Patches.{means_same}
use Rattle.eco_patch_laws.proofs.laws.patch_means_same.Goals as goal

pub returns : goal.returns
returns c = means_same
