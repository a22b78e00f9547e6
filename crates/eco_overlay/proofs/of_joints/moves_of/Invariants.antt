use Rattle.std.proofs.Common.{◌≡◌, map, take, false}
use Rattle.std.specs.List.{list_any}
use Rattle.eco_overlay.specs.PinMoves.{new_joint, joint_by_names}
use Rattle.eco_overlay.proofs.of_joints.moves_of.Given as goal

-- the joints so far
abbrev pub invariant-loop-joint : goal.invariant-loop-joint
invariant-loop-joint l = (map new_joint l.moves.items ≡ map joint_by_names (take l.joint-index l.joints)) × (list_any (λ m. m.stands) l.moves.items ≡ false)
