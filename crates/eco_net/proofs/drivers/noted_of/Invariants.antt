use Rattle.std.proofs.Common.{◌≡◌}
use Rattle.eco_net.specs.Driving.{each_driving, pins_before}
use Rattle.eco_net.proofs.drivers.noted_of.Given as goal

abbrev pub invariant-loop-comp : goal.invariant-loop-comp
invariant-loop-comp l = l.driving.items ≡ each_driving l.listed (pins_before l.listed l.comp)
