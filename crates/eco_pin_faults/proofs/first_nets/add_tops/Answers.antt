use Rattle.std.proofs.Common.{[], ◌∷◌, map, take, get_or, sym, subst}
use Rattle.eco_elaborate.proofs.Adding.{mapped_at}
use Rattle.eco_elaborate.proofs.Fillers.{no_pin}
use Rattle.eco_pin_faults.specs.Held.{AddsPlaces}
use Rattle.eco_pin_faults.specs.Places.{PinPlace, top_place}
use Rattle.eco_pin_faults.proofs.Maps.{more_added}
use Rattle.eco_pin_faults.proofs.first_nets.add_tops.Goals as goal

pub loop-pin-preserved : goal.loop-pin-preserved
loop-pin-preserved c =
    let i = c.loop-pin.pin-index in
    subst (AddsPlaces c.args.nets.now c.add_place.new.nets) (sym (mapped_at (top_place c.args.text.now) c.args.pins.now i no_pin c.loop-pin-test.true))
    (more_added (map (top_place c.args.text.now) (take i c.args.pins.now)) (top_place c.args.text.now (get_or c.args.pins.now i no_pin) ∷ []) c.args.nets.now c.loop-pin.nets c.add_place.new.nets c.loop-pin.invariant
    (subst (λ (p : PinPlace). AddsPlaces c.loop-pin.nets c.add_place.new.nets (p ∷ [])) c.top_at-place.ensures c.in_ok-add_place.ensures))
