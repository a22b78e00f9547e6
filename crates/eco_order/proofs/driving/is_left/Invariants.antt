use Rattle.std.proofs.Common.{◌≡◌, drop}
use Rattle.std.specs.List.{list_any}
use Rattle.eco_net.specs.Listing.{netlist}
use Rattle.eco_order.specs.Deciding.{leaves}
use Rattle.eco_order.proofs.driving.is_left.Given as goal

abbrev pub invariant-loop-moved : goal.invariant-loop-moved
invariant-loop-moved l = list_any (leaves (netlist l.net) l.name) l.moves ≡ list_any (leaves (netlist l.net) l.name) (drop l.moved-index l.moves)
