use Rattle.std.proofs.Common.{◌≡◌, ◌++◌}
use Rattle.std.specs.List.{filter}
use Rattle.eco_net.specs.declared.observables.Seen.TheVariants.{AtChip}
use Rattle.eco_net.specs.ByNumber.{tops_to}
use Rattle.eco_net.specs.Seen.{is_seen}
use Rattle.eco_net.proofs.netlist.Netlist.add_tops.Given as goal

abbrev pub invariant-loop-top : goal.invariant-loop-top
invariant-loop-top l = l.found.items ≡ l.fn.found.items ++ filter (is_seen l.self AtChip) (tops_to l.top)
