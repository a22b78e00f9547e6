use Rattle.std.proofs.Common.{◌≡◌, ◌++◌, map, take, length}
use Rattle.std.specs.List.{zip}
use Rattle.eco_patch_laws.specs.Realisation.{feed_joints}
use Rattle.eco_one_gate.specs.OneGates.{gate_of}
use Rattle.eco_overlay.specs.PinMoves.{joint_by_names}
use Rattle.eco_one_gate.proofs.gate_joints.add_all_fed.Given as goal

-- the pins so far
abbrev pub invariant-loop-pin : goal.invariant-loop-pin
invariant-loop-pin l =
    map joint_by_names l.joints.items
    ≡ map joint_by_names l.initial.joints.items ++ feed_joints l.low l.high (gate_of l.one) l.one.spare (take (length l.yielded) (zip l.pins l.one.feeds.items))
