use Rattle.std.proofs.Common.{◌≡◌, length, drop}
use Rattle.eco_net.specs.Listing.{netlist}
use Rattle.eco_order.specs.Inserting.{with_moved}
use Rattle.eco_order.proofs.joints.make_moves.Given as goal

abbrev pub invariant-loop-place : goal.invariant-loop-place
invariant-loop-place l =
    (netlist l.maker ≡ with_moved (netlist l.initial.maker) (drop l.place l.moves))
    × (length l.maker.comps ≡ length l.initial.maker.comps)
