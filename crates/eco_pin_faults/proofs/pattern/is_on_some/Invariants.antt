use Rattle.std.proofs.Common.{◌≡◌, false, take}
use Rattle.eco_pin_faults.specs.Patterns.{is_signal_on}
use Rattle.eco_pin_faults.proofs.pattern.is_on_some.Given as goal

-- none of the models so far has the pin
abbrev pub invariant-loop-model : goal.invariant-loop-model
invariant-loop-model g l = is_signal_on (g.M.Macros.kinds l.macros) (take l.model-index l.models) l.pin ≡ false
