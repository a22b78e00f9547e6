use Rattle.eco_patch_laws.proofs.Beside.{patch_moves_arrive, patch_others_remain}
use Rattle.eco_patch_laws.proofs.laws.moves_arrive.Goals as goal

pub returns-clause-moved : goal.returns-clause-moved
returns-clause-moved c = patch_moves_arrive

pub returns-clause-others : goal.returns-clause-others
returns-clause-others c = patch_others_remain
