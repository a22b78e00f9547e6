use Rattle.std.proofs.Common.{map, take}
use Rattle.eco_net.specs.Kept.{IsIndexOf}
use Rattle.eco_net.proofs.removal.index_of.Given as goal

abbrev pub invariant-loop-place : goal.invariant-loop-place
invariant-loop-place l = IsIndexOf (map (λ r. r.name) (take l.place l.comps)) l.index
