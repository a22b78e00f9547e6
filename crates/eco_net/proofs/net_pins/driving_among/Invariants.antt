use Rattle.std.proofs.Common.{◌≡◌, take}
use Rattle.std.specs.List.{filter}
use Rattle.eco_net.specs.ByNumber.{drives}
use Rattle.eco_net.proofs.net_pins.driving_among.Given as goal

abbrev pub invariant-loop-pin : goal.invariant-loop-pin
invariant-loop-pin l = l.found.items ≡ filter (drives l.listed) (take l.pin-index l.pins)
