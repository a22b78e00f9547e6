use Rattle.std.proofs.Common.{◌≡◌, ◌+◌, length, drop}
use Rattle.eco_net.specs.Listing.{netlist}
use Rattle.eco_order.specs.Inserting.{with_all_gates}
use Rattle.eco_order.proofs.gates.add_gates.Given as goal

abbrev pub invariant-loop-place : goal.invariant-loop-place
invariant-loop-place l =
    (netlist l.maker ≡ with_all_gates l.label (netlist l.initial.maker) (drop l.place l.gates))
    × (length l.maker.comps + l.place ≡ length l.initial.maker.comps + length l.gates)
