use Rattle.std.proofs.Common.{◌≡◌, map}
use Rattle.eco_overlay.specs.PinMoves.{marked_by}
use Rattle.eco_overlay.proofs.standing.mark_joints.Given as goal

-- the moves as the joints so far have marked them
abbrev pub invariant-loop-joint : goal.invariant-loop-joint
invariant-loop-joint l = l.moves ≡ map (marked_by l.text l.net l.yielded) l.initial.moves
