use Rattle.std.proofs.Common.{◌≡◌, map, None}
use Rattle.std.specs.List.{find}
use Rattle.eco_pin_faults.specs.Places.{joint_place}
use Rattle.eco_pin_faults.proofs.first_place.first_of_joints.Given as goal

-- none of the joints so far passes
abbrev pub invariant-loop-joint : goal.invariant-loop-joint
invariant-loop-joint g l = find (g.T.PlaceTest.passes l.test) (map (joint_place l.text l.net) l.yielded) ≡ None
