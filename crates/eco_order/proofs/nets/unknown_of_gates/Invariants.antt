use Rattle.std.proofs.Common.{◌≡◌, drop, not}
use Rattle.std.specs.List.{find, flat_map}
use Rattle.eco_net.specs.Listing.{netlist}
use Rattle.eco_order.specs.Rules.{is_known, gate_nets}
use Rattle.eco_order.proofs.nets.unknown_of_gates.Given as goal

abbrev pub invariant-loop-gate : goal.invariant-loop-gate
invariant-loop-gate l = find (λ n. not (is_known (netlist l.net) l.new n)) (flat_map gate_nets l.gates) ≡ find (λ n. not (is_known (netlist l.net) l.new n)) (flat_map gate_nets (drop l.gate-index l.gates))
