use Rattle.std.proofs.Common.{◌≡◌, ℕ, List, take}
use Rattle.eco_overlay.specs.NetChanges.{coming, moves_on}
use Rattle.eco_overlay.proofs.coming.coming_pins.Given as goal

-- the moves so far, net by net
abbrev pub invariant-loop-moved : goal.invariant-loop-moved
invariant-loop-moved l = (net : List ℕ) → moves_on l.added net ≡ coming (take l.moved-index l.moves) net
