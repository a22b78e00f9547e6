use Rattle.std.proofs.Common.{◌≡◌, ℕ, List, take}
use Rattle.eco_common.specs.KnownNames.{knows}
use Rattle.eco_elaborate.specs.Stated.{named_comps}
use Rattle.eco_master_faults.specs.Differing.{uses}
use Rattle.eco_master_faults.proofs.used.used_models.Given as goal

-- the models of the components so far
abbrev pub invariant-loop-comp : goal.invariant-loop-comp
invariant-loop-comp l = (q : List ℕ) → knows l.used q ≡ uses (named_comps l.text (take l.comp-index l.comps)) q
