use Rattle.std.proofs.Common.{◌∙◌, Some, sym, ap, true≢false}
use Rattle.eco_one_gate.proofs.CompPins.{comp_at, place_within}
use Rattle.eco_one_gate.proofs.MovedPins.{no_pin, is_known, reads_input, on_its_net, moved_pin}
use Rattle.eco_one_gate.proofs.good_order.moved_pin.Goals as goal

pub find_pin-requires : goal.find_pin-requires
find_pin-requires c = place_within c.args.netlist.now c.bytes.result.now c.in-Some.comp.0 c.in-Some.ensures

pub returns-in_default-find_pin : goal.returns-in_default-find_pin
returns-in_default-find_pin c =
    no_pin c.args.netlist.now c.requires c.args.one.now c.in-Some.comp (comp_at c.args.netlist.now c.args.one.now.comp c.in-Some.comp.0 (c.in-Some.ensures ∙ ap Some c.bytes.ensures))
    (rw c.bytes-2.ensures at c.in_default-find_pin.ensures.row)

pub is_input-requires : goal.is_input-requires
is_input-requires c =
    is_known c.args.netlist.now c.requires c.args.one.now c.in-Some.comp (comp_at c.args.netlist.now c.args.one.now.comp c.in-Some.comp.0 (c.in-Some.ensures ∙ ap Some c.bytes.ensures))
    c.in-Some-find_pin.pin
    (rw c.bytes-2.ensures at c.in-Some-find_pin.ensures.row)

pub returns-then-not-is_input : goal.returns-then-not-is_input
returns-then-not-is_input c s =
    true≢false (sym (c.is_input.ensures.1
    (reads_input c.args.netlist.now c.requires c.args.one.now c.in-Some.comp (comp_at c.args.netlist.now c.args.one.now.comp c.in-Some.comp.0 (c.in-Some.ensures ∙ ap Some c.bytes.ensures))
    c.in-Some-find_pin.pin
    (rw c.bytes-2.ensures at c.in-Some-find_pin.ensures.row)
    s)) ∙ c.if-not-is_input.true)

pub returns-then-is_named : goal.returns-then-is_named
returns-then-is_named c =
    moved_pin c.args.netlist.now c.requires c.args.one.now c.in-Some.comp (comp_at c.args.netlist.now c.args.one.now.comp c.in-Some.comp.0 (c.in-Some.ensures ∙ ap Some c.bytes.ensures))
    c.in-Some-find_pin.pin
    (rw c.bytes-2.ensures at c.in-Some-find_pin.ensures.row)
    (c.is_input.ensures.0 c.if-not-is_input.false)
    (sym c.net_at.ensures ∙ c.is_named.ensures.0 c.if-is_named.true ∙ ap Some c.bytes-3.ensures)

pub returns-else-is_named : goal.returns-else-is_named
returns-else-is_named c s =
    true≢false (sym (c.is_named.ensures.1 (c.net_at.ensures
    ∙ on_its_net c.args.netlist.now c.requires c.args.one.now c.in-Some.comp (comp_at c.args.netlist.now c.args.one.now.comp c.in-Some.comp.0 (c.in-Some.ensures ∙ ap Some c.bytes.ensures))
    c.in-Some-find_pin.pin
    (rw c.bytes-2.ensures at c.in-Some-find_pin.ensures.row)
    s
    ∙ ap Some (sym c.bytes-3.ensures))) ∙ c.if-is_named.false)
