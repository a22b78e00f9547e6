use Rattle.std.proofs.Common.{◌≡◌, drop}
use Rattle.std.specs.List.{find}
use Rattle.eco_net.specs.Listing.{netlist}
use Rattle.eco_order.specs.Rules.{is_stock}
use Rattle.eco_order.proofs.moves.first_stock.Given as goal

abbrev pub invariant-loop-moved : goal.invariant-loop-moved
invariant-loop-moved l = find (is_stock (netlist l.net)) l.moves ≡ find (is_stock (netlist l.net)) (drop l.moved-index l.moves)
