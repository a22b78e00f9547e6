use Rattle.std.proofs.Common.{◌≡◌, ◌∙◌, IfOk, Option, subst, sym}
use Rattle.std.specs.Option.{option_map}
use Rattle.eco_pin_faults.specs.Held.{place_by}
use Rattle.eco_pin_faults.specs.Places.{PinPlace}
use Rattle.eco_pin_faults.proofs.Order.{found_before, found_top, found_behind}
use Rattle.eco_pin_faults.proofs.first_place.first_place.Goals as goal

pub returns-then-is_some : goal.returns-then-is_some
returns-then-is_some g c =
    found_before c.args.text.now c.args.design.now c.as_slice-nets.result.now c.as_slice-pins.result.now c.pins_start-start.result c.as_slice-nets.ensures c.as_slice-pins.ensures c.pins_start-start.ensures
    (g.T.PlaceTest.passes c.args.test.now) c.in_ok-before.before c.in_ok-before.ensures (sym c.is_some.ensures ∙ c.if-is_some.true)

pub returns-then-is_some-2 : goal.returns-then-is_some-2
returns-then-is_some-2 g c =
    found_top c.args.text.now c.args.design.now c.as_slice-nets.result.now c.as_slice-pins.result.now c.pins_start-start.result c.as_slice-nets.ensures c.as_slice-pins.ensures c.pins_start-start.ensures
    (g.T.PlaceTest.passes c.args.test.now) c.in_ok-before.before c.in_ok-before.ensures (sym c.is_some.ensures ∙ c.if-is_some.false)
    c.in_ok-top.top c.in_ok-top.ensures (sym c.is_some-2.ensures ∙ c.if-is_some-2.true)

pub returns : goal.returns
returns g c =
    subst (λ (q : Option PinPlace). IfOk c.first_of_side-2.result (λ o. option_map place_by o ≡ q))
    (found_behind c.args.text.now c.args.design.now c.as_slice-nets.result.now c.as_slice-pins.result.now c.pins_start-start.result c.as_slice-nets.ensures c.as_slice-pins.ensures c.pins_start-start.ensures
    (g.T.PlaceTest.passes c.args.test.now) c.in_ok-before.before c.in_ok-before.ensures (sym c.is_some.ensures ∙ c.if-is_some.false)
    c.in_ok-top.top c.in_ok-top.ensures (sym c.is_some-2.ensures ∙ c.if-is_some-2.false))
    c.first_of_side-2.ensures
