use Rattle.std.proofs.Common.{◌≡◌, ◌++◌, take}
use Rattle.eco_text.specs.Writing.{joined}
use Rattle.eco_overlay.proofs.bytes.put.Given as goal

-- the pieces so far
abbrev pub invariant-loop-piece : goal.invariant-loop-piece
invariant-loop-piece l = l.bytes.items ≡ l.initial.bytes.items ++ joined (take l.piece-index l.pieces)
