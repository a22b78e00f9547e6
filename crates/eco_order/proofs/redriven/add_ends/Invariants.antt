use Rattle.std.proofs.Common.{◌≡◌, ◌++◌, drop, map}
use Rattle.std.specs.List.{filter, flat_map}
use Rattle.eco_net.specs.Listing.{netlist}
use Rattle.eco_order.specs.Rules.{ends, moves_output}
use Rattle.eco_order.proofs.redriven.add_ends.Given as goal

abbrev pub invariant-loop-moved : goal.invariant-loop-moved
invariant-loop-moved l =
    map (λ n. n.now) l.nets.items ++ flat_map ends (filter (moves_output (netlist l.net)) (drop l.moved-index l.moves))
    ≡ map (λ n. n.now) l.initial.nets.items ++ flat_map ends (filter (moves_output (netlist l.net)) l.moves)
