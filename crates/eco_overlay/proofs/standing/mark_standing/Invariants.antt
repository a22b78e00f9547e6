use Rattle.std.proofs.Common.{◌≡◌, map, take}
use Rattle.eco_overlay.specs.PinMoves.{marked_in}
use Rattle.eco_overlay.proofs.standing.mark_standing.Given as goal

-- the moves as the statements so far have marked them
abbrev pub invariant-loop-net : goal.invariant-loop-net
invariant-loop-net l = l.moves ≡ map (marked_in l.text (take l.net-index l.nets)) l.initial.moves
