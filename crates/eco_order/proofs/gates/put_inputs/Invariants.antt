use Rattle.std.proofs.Common.{◌≡◌, length, drop}
use Rattle.eco_net.specs.Listing.{netlist}
use Rattle.eco_order.specs.Inserting.{put_all, pins_from}
use Rattle.eco_order.proofs.gates.put_inputs.Given as goal

abbrev pub invariant-loop-place : goal.invariant-loop-place
invariant-loop-place l =
    (netlist l.maker ≡ put_all (netlist l.initial.maker) l.comp (pins_from l.place (drop l.place l.inputs)))
    × (length l.maker.comps ≡ length l.initial.maker.comps)
