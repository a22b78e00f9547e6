use Rattle.std.proofs.Common.{map}
use Rattle.eco_pin_faults.specs.Held.{AddsPlaces}
use Rattle.eco_pin_faults.specs.Places.{joint_place}
use Rattle.eco_pin_faults.proofs.first_nets.add_joints.Given as goal

-- the joints so far are added
abbrev pub invariant-loop-joint : goal.invariant-loop-joint
invariant-loop-joint l = AddsPlaces l.initial.nets l.nets (map (joint_place l.text l.net) l.yielded)
