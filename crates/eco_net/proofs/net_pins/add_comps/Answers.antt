use Rattle.std.proofs.Common.{◌≡◌, ◌<◌, ◌∙◌, ◌++◌, ◌+◌, sym, ap, List, length, take, arith}
use Rattle.std.specs.List.{filter}
use Rattle.std.proofs.lemmas.List.{append_assoc}
use Rattle.std.proofs.lemmas.List.Elements.{filter-append}
use Rattle.eco_net.specs.declared.ids.PinRef.{PinRef}
use Rattle.eco_net.specs.ByNumber.{is_on, pins_to, comp_pins, pin_count, pins_at}
use Rattle.eco_net.proofs.Places.{at_place}
use Rattle.eco_net.proofs.ByNets.{comp_more}
use Rattle.eco_net.proofs.net_pins.add_comps.Goals as goal

pub loop-comp-preserved : goal.loop-comp-preserved
loop-comp-preserved c =
    let L = c.args.listed.now in
    let test = is_on L c.args.net in
    let before : List PinRef = c.args.found.now.items in
    let n = c.loop-comp.comp in
    let h : n < length L.comps = omega (arith, c.loop-comp-test.true, c.loop-comp.auto.comp-end, c.comp_count-comp-end.ensures) in
    let r = at_place L.comps n h in
    let pins : comp_pins 0 (take n L.comps) ++ pins_to n (pin_count L n) ≡ comp_pins 0 (take (n + 1) L.comps) =
    ap (λ m. comp_pins 0 (take n L.comps) ++ pins_to n m) (ap pins_at r.1) ∙ sym (comp_more L n r.0 r.1 h) in
    c.in_ok-add_pins.ensures
    ∙ ap (λ (xs : List PinRef). xs ++ filter test (pins_to n (pin_count L n))) c.loop-comp.invariant
    ∙ append_assoc before (filter test (comp_pins 0 (take n L.comps))) (filter test (pins_to n (pin_count L n)))
    ∙ ap (λ xs. before ++ xs) (sym (filter-append test (comp_pins 0 (take n L.comps)) (pins_to n (pin_count L n))) ∙ ap (filter test) pins)
