use Rattle.std.proofs.Common.{◌-◌, drop, ◌∙◌, arith}
use Rattle.eco_net.specs.Listing.{netlist}
use Rattle.eco_net.proofs.Basics.{contains_from_has}
use Rattle.eco_order.specs.Inserting.{pins_from}
use Rattle.eco_order.proofs.Putting.{has_before}
use Rattle.eco_order.proofs.Gating.{pin_stays, net_stays}
use Rattle.eco_patch_laws.specs.Insertion.{input_pin}
use Rattle.eco_order.proofs.gates.put_inputs.Goals as goal

pub put_pin-requires-clause-pin : goal.put_pin-requires-clause-pin
put_pin-requires-clause-pin c =
    let k = c.loop-place.place in
    pin_stays (netlist c.args.maker.now) (netlist c.loop-place.maker) c.args.comp.now (pins_from k (drop k c.args.inputs.now)) c.loop-place.invariant.0
    c.bytes.result.now (input_pin (k - 1)) (c.requires.pins (k - 1) (omega (arith, c.loop-place-test.true, c.loop-place.auto.place))) (c.bytes.ensures ∙ c.in_ok-pin.ensures)

pub put_pin-requires-clause-net : goal.put_pin-requires-clause-net
put_pin-requires-clause-net c =
    let k = c.loop-place.place in
    let n = c.index-inputs-place.result in
    net_stays (netlist c.args.maker.now) (netlist c.loop-place.maker) c.args.comp.now (pins_from k (drop k c.args.inputs.now)) c.loop-place.invariant.0
    c.bytes-in-loop-place.result.now n
    (c.requires.nets n (contains_from_has c.args.inputs.now n (has_before c.args.inputs.now k n c.loop-place-test.true c.loop-place.auto.place c.index-inputs-place.is))) c.bytes-in-loop-place.ensures
