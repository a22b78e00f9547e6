use Rattle.std.proofs.Common.{◌≡◌, drop, not, map}
use Rattle.std.specs.List.{find}
use Rattle.eco_net.specs.Listing.{netlist}
use Rattle.eco_order.specs.Rules.{is_known}
use Rattle.eco_order.proofs.nets.unknown_of_moves.Given as goal

abbrev pub invariant-loop-moved : goal.invariant-loop-moved
invariant-loop-moved l = find (λ n. not (is_known (netlist l.net) l.new n)) (map (λ m. m.to) l.moves) ≡ find (λ n. not (is_known (netlist l.net) l.new n)) (map (λ m. m.to) (drop l.moved-index l.moves))
