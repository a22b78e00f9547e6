use Rattle.std.proofs.Common.{sym, ◌∙◌, ◌+◌}
use Rattle.eco_func.proofs.PinNames.{left_from, pin_again, pin_new, rest_at}
use Rattle.eco_func.proofs.master.pins_differ.Goals as goal

pub returns-then-is_pin : goal.returns-then-is_pin
returns-then-is_pin c =
    let os = c.args.outputs.now in
    let i = c.loop-place.place in
    let o = c.index-outputs-place.result in
    sym (c.loop-place.invariant
    ∙ pin_again os i o c.is_pin.result (left_from os i o c.loop-place-test.true c.index-outputs-place.is) (c.is_pin.ensures ∙ rest_at os (i + 1) _) c.if-is_pin.true)

pub loop-place-preserved : goal.loop-place-preserved
loop-place-preserved c =
    let os = c.args.outputs.now in
    let i = c.loop-place.place in
    let o = c.index-outputs-place.result in
    c.loop-place.invariant
    ∙ pin_new os i o c.is_pin.result (left_from os i o c.loop-place-test.true c.index-outputs-place.is) (c.is_pin.ensures ∙ rest_at os (i + 1) _) c.if-is_pin.false
