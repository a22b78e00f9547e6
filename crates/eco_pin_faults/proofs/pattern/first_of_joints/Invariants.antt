use Rattle.std.proofs.Common.{◌≡◌, map, None}
use Rattle.std.specs.List.{find}
use Rattle.eco_pin_faults.specs.Patterns.{AreCleared, is_pattern_on}
use Rattle.eco_pin_faults.specs.Places.{joint_place}
use Rattle.eco_pin_faults.proofs.pattern.first_of_joints.Given as goal

-- none of the joints so far is a pattern on a pin that isn't supply
abbrev pub invariant-loop-joint : goal.invariant-loop-joint
invariant-loop-joint g l = record {
  none : find (is_pattern_on (g.M.Macros.kinds l.macros) l.models) (map (joint_place l.text l.net) l.yielded) ≡ None;
  cleared : AreCleared (g.M.Macros.kinds l.macros) l.models l.cleared;
}
