use Rattle.std.proofs.Common.{◌≡◌, ◌++◌}
use Rattle.std.specs.List.{filter}
use Rattle.eco_net.specs.ByNumber.{is_on, pins_to}
use Rattle.eco_net.proofs.net_pins.add_pins.Given as goal

abbrev pub invariant-loop-pin : goal.invariant-loop-pin
invariant-loop-pin l = l.found.items ≡ l.fn.found.items ++ filter (is_on l.listed l.net) (pins_to l.comp l.pin)
