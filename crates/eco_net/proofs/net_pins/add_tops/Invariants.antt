use Rattle.std.proofs.Common.{◌≡◌, ◌++◌}
use Rattle.std.specs.List.{filter}
use Rattle.eco_net.specs.ByNumber.{is_on, tops_to}
use Rattle.eco_net.proofs.net_pins.add_tops.Given as goal

abbrev pub invariant-loop-top : goal.invariant-loop-top
invariant-loop-top l = l.found.items ≡ l.fn.found.items ++ filter (is_on l.listed l.net) (tops_to l.top)
