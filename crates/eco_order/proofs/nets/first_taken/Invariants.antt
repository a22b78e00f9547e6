use Rattle.std.proofs.Common.{◌≡◌, drop}
use Rattle.std.specs.List.{find}
use Rattle.std.specs.FinMap.{contains_key}
use Rattle.eco_net.specs.Listing.{netlist}
use Rattle.eco_order.proofs.nets.first_taken.Given as goal

abbrev pub invariant-loop-name : goal.invariant-loop-name
invariant-loop-name l = find (contains_key (netlist l.net).nets) (l.nets) ≡ find (contains_key (netlist l.net).nets) ((drop l.name-index l.nets))
