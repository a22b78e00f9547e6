use Rattle.eco_patch_laws.proofs.Patches.{gates_compute, spares_compute}
use Rattle.eco_patch_laws.proofs.laws.outputs_are_computed.Goals as goal

pub returns-clause-gates : goal.returns-clause-gates
returns-clause-gates c = gates_compute

pub returns-clause-spares : goal.returns-clause-spares
returns-clause-spares c = spares_compute
