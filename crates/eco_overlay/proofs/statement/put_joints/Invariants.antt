use Rattle.std.proofs.Common.{◌≡◌, ◌++◌, map}
use Rattle.std.specs.List.{flat_map}
use Rattle.eco_def.specs.View.{joint_in}
use Rattle.eco_issued_laws.specs.Changes.{stays_on}
use Rattle.eco_issued_laws.specs.Issued.{kept_text}
use Rattle.eco_overlay.specs.PinMoves.{new_joint}
use Rattle.eco_overlay.proofs.statement.put_joints.Given as goal

-- the joints so far
abbrev pub invariant-loop-joint : goal.invariant-loop-joint
invariant-loop-joint l = l.bytes.items ≡ l.initial.bytes.items ++ flat_map (λ j. kept_text l.text (stays_on (map new_joint l.moves) l.net) (joint_in l.text j)) l.yielded
