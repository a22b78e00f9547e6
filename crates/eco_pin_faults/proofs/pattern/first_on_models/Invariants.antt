use Rattle.std.proofs.Common.{◌≡◌, take, None}
use Rattle.std.specs.List.{find}
use Rattle.eco_pin_faults.specs.Patterns.{AreCleared, is_pattern_on}
use Rattle.eco_pin_faults.specs.Places.{joints_among}
use Rattle.eco_pin_faults.proofs.pattern.first_on_models.Given as goal

-- no joint of the statements so far is a pattern on a pin that isn't supply
abbrev pub invariant-loop-net : goal.invariant-loop-net
invariant-loop-net g l = record {
  none : find (is_pattern_on (g.M.Macros.kinds l.macros) l.models) (joints_among l.text (take l.net-index l.nets)) ≡ None;
  cleared : AreCleared (g.M.Macros.kinds l.macros) l.models l.cleared;
}
