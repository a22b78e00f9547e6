use Rattle.std.proofs.Common.{◌≡◌, take, map}
use Rattle.std.specs.FinMap.{get}
use Rattle.eco_net.proofs.index.NameIndex.find_all.Given as goal

abbrev pub invariant-loop-at : goal.invariant-loop-at
invariant-loop-at l = l.places.items ≡ map (λ n. get l.self n.now) (take l.at l.names)
