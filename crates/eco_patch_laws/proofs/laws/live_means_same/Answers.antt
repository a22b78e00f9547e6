use Rattle.eco_patch_laws.proofs.Fold.{live_means_same as means_same}
use Rattle.eco_patch_laws.proofs.laws.live_means_same.Goals as goal

pub returns : goal.returns
returns c = means_same
