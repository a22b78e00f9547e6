use Rattle.std.proofs.Common.{◌≡◌, drop, not}
use Rattle.std.specs.List.{find}
use Rattle.eco_net.specs.Listing.{netlist}
use Rattle.eco_order.specs.Rules.{is_known}
use Rattle.eco_order.proofs.nets.unknown_input.Given as goal

abbrev pub invariant-loop-name : goal.invariant-loop-name
invariant-loop-name l = find (λ n. not (is_known (netlist l.net) l.new n)) (l.inputs) ≡ find (λ n. not (is_known (netlist l.net) l.new n)) ((drop l.name-index l.inputs))
