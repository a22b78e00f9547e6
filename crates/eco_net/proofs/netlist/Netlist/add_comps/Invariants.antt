use Rattle.std.proofs.Common.{◌≡◌, ◌++◌, take}
use Rattle.std.specs.List.{filter}
use Rattle.eco_net.specs.ByNumber.{comp_pins}
use Rattle.eco_net.specs.Seen.{is_seen}
use Rattle.eco_net.proofs.netlist.Netlist.add_comps.Given as goal

abbrev pub invariant-loop-comp : goal.invariant-loop-comp
invariant-loop-comp l = l.found.items ≡ l.fn.found.items ++ filter (is_seen l.self l.seen) (comp_pins 0 (take l.comp l.self.comps))
