use Rattle.std.proofs.Common.{◌≡◌, take}
use Rattle.eco_def.specs.Near.{joints_behind}
use Rattle.eco_def.proofs.NearJoints.{place_behind}
use Rattle.eco_def.proofs.joints.near_joints.Given as goal

-- the joints so far, and the end of the last of them
abbrev pub invariant-loop-joint : goal.invariant-loop-joint
invariant-loop-joint l = (joints_behind l.from l.near.items ≡ take l.joint-index l.joints) × (l.place ≡ place_behind l.from l.near.items)
