use Rattle.std.proofs.Common.{◌==◌, length, sym, ap, ◌∙◌}
use Rattle.std.specs.List.{list_any}
use Rattle.eco_net.specs.Listing.{netlist, net_name}
use Rattle.eco_order.specs.Deciding.{leaves}
use Rattle.eco_order.proofs.Looking.{net_named_at}
use Rattle.eco_order.proofs.Counting.{with_driver, without_driver, left_by_pins, number_known}
use Rattle.eco_order.proofs.driving.is_driven_once.Goals as goal

pub returns-in-Some-driver : goal.returns-in-Some-driver
returns-in-Some-driver c =
    let L = c.args.patched.now in
    let i = c.in-Some.number.0 in
    let n = c.args.name.now in
    with_driver (netlist c.args.net.now) c.args.order.now L c.facts.ensures.listing c.requires.patched n (net_name L.nets i) (net_named_at L c.facts.ensures.listing i n c.in-Some.ensures)
    c.in-Some-driver.field-0 c.in-Some-driver.ensures

pub returns-then-not-is_left : goal.returns-then-not-is_left
returns-then-not-is_left c =
    let L = c.args.patched.now in
    let i = c.in-Some.number.0 in
    let n = c.args.name.now in
    let N = netlist c.args.net.now in
    without_driver N c.args.order.now L c.facts.ensures.listing c.requires.patched n (net_name L.nets i) (net_named_at L c.facts.ensures.listing i n c.in-Some.ensures)
    c.in_default-driver.ensures (ap (list_any (leaves N n)) (sym (c.as_slice.ensures ∙ ap (λ o. o.moves) c.order.view_is)) ∙ sym c.is_left.ensures ∙ c.if-not-is_left.true)

pub sinks_in-requires-clause-known : goal.sinks_in-requires-clause-known
sinks_in-requires-clause-known c = number_known c.args.patched.now c.in-Some.number.0 c.args.name.now c.in-Some.ensures

pub returns : goal.returns
returns c =
    let L = c.args.patched.now in
    let i = c.in-Some.number.0 in
    let n = c.args.name.now in
    let N = netlist c.args.net.now in
    left_by_pins N c.args.order.now L c.facts.ensures.listing c.requires.patched n (net_name L.nets i) (net_named_at L c.facts.ensures.listing i n c.in-Some.ensures)
    c.in_default-driver.ensures (ap (list_any (leaves N n)) (sym (c.as_slice.ensures ∙ ap (λ o. o.moves) c.order.view_is)) ∙ sym c.is_left.ensures ∙ c.if-not-is_left.false)
    c.in_ok-pins.pins.items c.in_ok-pins.ensures c.are_none.result (c.are_none.ensures ∙ ap (λ ps. length ps == 0) c.deref.ensures.value)
