use Rattle.std.proofs.Common.{◌≡◌, drop, map}
use Rattle.std.specs.List.{find}
use Rattle.eco_net.specs.Listing.{netlist}
use Rattle.eco_order.specs.Rules.{is_fixed}
use Rattle.eco_order.proofs.redriven.first_fixed.Given as goal

abbrev pub invariant-loop-name : goal.invariant-loop-name
invariant-loop-name l = find (is_fixed (netlist l.net)) (map (λ n. n.now) l.nets) ≡ find (is_fixed (netlist l.net)) (map (λ n. n.now) (drop l.name-index l.nets))
