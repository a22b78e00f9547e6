use Rattle.std.proofs.Common.{◌≡◌, ◌++◌, ◌⊎◌, List, map}
use Rattle.std.specs.List.{Contains}
use Rattle.eco_net.specs.declared.rows.NetRow.{NetRow}
use Rattle.eco_net.specs.Listing.{net_name}
use Rattle.eco_elaborate.specs.declared.stated_joint.StatedJoint.{StatedJoint}
use Rattle.eco_elaborate.specs.Stated.{named_joint, pins_among}
use Rattle.eco_elaborate.specs.Stages.{stated_joints}
use Rattle.eco_elaborate.proofs.found_pins.add_all_waiting.Given as goal

-- the joints so far wait
abbrev pub invariant-loop-joint : goal.invariant-loop-joint
invariant-loop-joint l =
    ((nets : List NetRow) → stated_joints l.text nets l.waiting.items ≡ stated_joints l.text nets l.initial.waiting.items ++ pins_among (net_name nets l.net.0) (map (named_joint l.text) l.yielded))
    × ((s : StatedJoint) → Contains l.waiting.items s → Contains l.initial.waiting.items s ⊎ (s.net ≡ l.net))
