use Rattle.std.proofs.Common.{◌≡◌, ◌++◌}
use Rattle.eco_net.specs.ByNumber.{pins_to}
use Rattle.eco_net.specs.Driving.{each_driving, pins_before}
use Rattle.eco_net.proofs.drivers.note_comp.Given as goal

abbrev pub invariant-loop-pin : goal.invariant-loop-pin
invariant-loop-pin l = l.driving ≡ each_driving l.listed (pins_before l.listed l.comp ++ pins_to l.comp l.pin)
