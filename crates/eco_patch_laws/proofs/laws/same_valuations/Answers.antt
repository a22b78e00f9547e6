use Rattle.eco_patch_laws.proofs.Beside.{same_beside}
use Rattle.eco_patch_laws.proofs.Patches.{same_valuations as valuations}
use Rattle.eco_patch_laws.proofs.laws.same_valuations.Goals as goal

pub returns-clause-bare : goal.returns-clause-bare
returns-clause-bare c = valuations

pub returns-clause-beside : goal.returns-clause-beside
returns-clause-beside c = same_beside
