use Rattle.std.proofs.Common.{◌≡◌, ◌++◌, take}
use Rattle.std.specs.List.{filter}
use Rattle.eco_net.specs.ByNumber.{is_on, comp_pins}
use Rattle.eco_net.proofs.net_pins.add_comps.Given as goal

abbrev pub invariant-loop-comp : goal.invariant-loop-comp
invariant-loop-comp l = l.found.items ≡ l.fn.found.items ++ filter (is_on l.listed l.net) (comp_pins 0 (take l.comp l.listed.comps))
