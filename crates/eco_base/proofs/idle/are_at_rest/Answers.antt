use Rattle.std.proofs.Common.{◌≡◌, ◌<◌, Some, length, slice_get, sym, ap, ◌∙◌, subst, arith}
use Rattle.std.specs.Option.{option_map}
use Rattle.std.specs.List.{list_all}
use Rattle.eco_net.specs.declared.rows.CompRow.{CompRow}
use Rattle.eco_net.specs.Listing.{pins}
use Rattle.eco_net.proofs.Basics.{same_Some}
use Rattle.eco_base.proofs.Lists.{row_at, not_all, all_more}
use Rattle.eco_base.proofs.Rest.{pin_rests, rests_at}
use Rattle.eco_base.proofs.idle.are_at_rest.Goals as goal

pub returns-then-not-is_at_rest : goal.returns-then-not-is_at_rest
returns-then-not-is_at_rest c =
    let L = c.args.net.now in
    let desk = c.args.desk.now in
    let r = row_at (λ (r : CompRow). length (pins r)) (slice_get L.comps c.args.comp.0) c.args.count c.requires in
    let h : c.loop-pin.pin < length (pins r.0) = omega (arith, r.2, c.loop-pin-test.true, c.loop-pin.auto.pin-end) in
    let p = rests_at L c.facts.ensures.listing desk c.args.comp r.0 c.loop-pin.pin c.is_at_rest.result r.1 h c.is_at_rest.ensures in
    ap (option_map (λ (r : CompRow). list_all (pin_rests desk L.nets r) (pins r))) r.1
    ∙ ap Some (not_all (pin_rests desk L.nets r.0) (pins r.0) c.loop-pin.pin p.0 p.1 (p.2 ∙ c.if-not-is_at_rest.true))

pub loop-pin-preserved : goal.loop-pin-preserved
loop-pin-preserved c = λ r e.
    let L = c.args.net.now in
    let desk = c.args.desk.now in
    let w = row_at (λ (r : CompRow). length (pins r)) (slice_get L.comps c.args.comp.0) c.args.count c.requires in
    let len = subst (λ (x : CompRow). length (pins x) ≡ c.args.count) (same_Some (sym w.1 ∙ e)) w.2 in
    let h : c.loop-pin.pin < length (pins r) = omega (arith, len, c.loop-pin-test.true, c.loop-pin.auto.pin-end) in
    let p = rests_at L c.facts.ensures.listing desk c.args.comp r c.loop-pin.pin c.is_at_rest.result e h c.is_at_rest.ensures in
    all_more (pin_rests desk L.nets r) (pins r) c.loop-pin.pin p.0 p.1 (p.2 ∙ c.if-not-is_at_rest.false) (c.loop-pin.invariant r e)
