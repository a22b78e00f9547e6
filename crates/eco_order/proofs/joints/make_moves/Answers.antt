use Rattle.std.proofs.Common.{ap, ◌∙◌}
use Rattle.eco_net.specs.Listing.{netlist}
use Rattle.eco_order.proofs.Putting.{has_before, pin_is_there, net_is_there}
use Rattle.eco_order.proofs.joints.make_moves.Goals as goal

pub put_pin-requires-clause-pin : goal.put_pin-requires-clause-pin
put_pin-requires-clause-pin c =
    let m = c.index-moves-place.result in
    pin_is_there (netlist c.args.maker.now) (netlist c.loop-place.maker) c.args.moves.now c.loop-place.place m c.requires c.loop-place.invariant.0
    (has_before c.args.moves.now c.loop-place.place m c.loop-place-test.true c.loop-place.auto.place c.index-moves-place.is)
    c.bytes.result.now c.bytes-in-loop-place.result.now
    (c.bytes.ensures ∙ ap (λ m. m.comp) c.moved.view_is) (c.bytes-in-loop-place.ensures ∙ ap (λ m. m.pin) c.moved.view_is)

pub put_pin-requires-clause-net : goal.put_pin-requires-clause-net
put_pin-requires-clause-net c =
    let m = c.index-moves-place.result in
    net_is_there (netlist c.args.maker.now) (netlist c.loop-place.maker) c.args.moves.now c.loop-place.place m c.requires c.loop-place.invariant.0
    (has_before c.args.moves.now c.loop-place.place m c.loop-place-test.true c.loop-place.auto.place c.index-moves-place.is)
    c.bytes-in-loop-place-2.result.now
    (c.bytes-in-loop-place-2.ensures ∙ ap (λ m. m.to) c.moved.view_is)
