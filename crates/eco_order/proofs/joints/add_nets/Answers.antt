use Rattle.std.proofs.Common.{ap}
use Rattle.eco_net.specs.Listing.{netlist}
use Rattle.eco_order.proofs.Putting.{next_is_new}
use Rattle.eco_order.proofs.joints.add_nets.Goals as goal

pub add_net-requires-clause-new_name : goal.add_net-requires-clause-new_name
add_net-requires-clause-new_name c =
    next_is_new (netlist c.loop-place.maker) (netlist c.args.maker.now).nets c.args.nets.now c.loop-place.place c.index-nets-place.result c.bytes.result.now
    c.loop-place-test.true c.loop-place.auto.place c.index-nets-place.is c.bytes.ensures (ap (λ N. N.nets) c.loop-place.invariant.0) c.requires.distinct c.requires.new
