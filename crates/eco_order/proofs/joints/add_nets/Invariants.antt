use Rattle.std.proofs.Common.{◌≡◌, ◌+◌, length, drop}
use Rattle.eco_net.specs.Listing.{netlist}
use Rattle.eco_net.specs.Joints.{with_nets}
use Rattle.eco_order.proofs.joints.add_nets.Given as goal

abbrev pub invariant-loop-place : goal.invariant-loop-place
invariant-loop-place l =
    (netlist l.maker ≡ record (netlist l.initial.maker) { nets = with_nets (netlist l.initial.maker).nets (drop l.place l.nets) })
    × (l.maker.comps ≡ l.initial.maker.comps)
    × (length l.maker.nets + l.place ≡ length l.initial.maker.nets + length l.nets)
