use Rattle.std.proofs.Common.{◌≡◌, ◌++◌}
use Rattle.std.specs.List.{filter}
use Rattle.eco_net.specs.ByNumber.{pins_to}
use Rattle.eco_net.specs.Seen.{is_seen}
use Rattle.eco_net.proofs.netlist.Netlist.add_pins.Given as goal

abbrev pub invariant-loop-number : goal.invariant-loop-number
invariant-loop-number l = l.found.items ≡ l.fn.found.items ++ filter (is_seen l.self l.seen) (pins_to l.comp l.number)
