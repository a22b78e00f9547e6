use Rattle.std.proofs.Common.{◌∙◌, sym}
use Rattle.eco_elaborate.proofs.Fillers.{no_pin}
use Rattle.eco_pin_faults.specs.Held.{place_by}
use Rattle.eco_pin_faults.specs.Places.{top_place}
use Rattle.eco_pin_faults.proofs.Lists.{made_fails, made_passes}
use Rattle.eco_pin_faults.proofs.first_place.first_of_tops.Goals as goal

pub returns-then-passes : goal.returns-then-passes
returns-then-passes g c =
    made_passes (top_place c.args.text.now) (g.T.PlaceTest.passes c.args.test.now) c.args.pins.now c.loop-pin.pin-index no_pin c.loop-pin-test.true (place_by c.top_at-place.result) c.top_at-place.ensures
    c.loop-pin.invariant (sym c.in_ok-passes.ensures ∙ c.if-passes.true)

pub loop-pin-preserved : goal.loop-pin-preserved
loop-pin-preserved g c =
    made_fails (top_place c.args.text.now) (g.T.PlaceTest.passes c.args.test.now) c.args.pins.now c.loop-pin.pin-index no_pin c.loop-pin-test.true (place_by c.top_at-place.result) c.top_at-place.ensures
    c.loop-pin.invariant (sym c.in_ok-passes.ensures ∙ c.if-passes.false)
