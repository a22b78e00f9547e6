use Rattle.std.proofs.Common.{◌≡◌, drop, not}
use Rattle.std.specs.List.{find}
use Rattle.eco_net.specs.Listing.{netlist}
use Rattle.eco_order.specs.Rules.{is_from}
use Rattle.eco_order.proofs.moves.first_elsewhere.Given as goal

abbrev pub invariant-loop-moved : goal.invariant-loop-moved
invariant-loop-moved l = find (λ m. not (is_from (netlist l.net) m)) l.moves ≡ find (λ m. not (is_from (netlist l.net) m)) (drop l.moved-index l.moves)
