use Rattle.std.proofs.Common.{◌≡◌, ◌∙◌, ◌<◌, sym, ap, map, Some, arith, below_more, true≢false}
use Rattle.std.proofs.lemmas.Option.{slice_get-map, slice_get-get_or}
use Rattle.std.proofs.lemmas.Slice.Eq.{bytes_eq-Decides}
use Rattle.std.proofs.lemmas.List.{length-map}
use Rattle.eco_net.specs.Netlist.{pins_of}
use Rattle.eco_net.specs.Listing.{given_kind}
use Rattle.eco_net.proofs.Basics.{same_Some}
use Rattle.eco_net.proofs.kind.Kind.find_among.Goals as goal

pub returns-then-eq : goal.returns-then-eq
returns-then-eq c =
    let ps = pins_of (given_kind c.args.self.now) in
    let same : c.pin_name.result.now ≡ c.args.name.now = (bytes_eq-Decides c.pin_name.result.now c.args.name.now).0 (sym c.eq.ensures ∙ c.if-eq.true) in
    slice_get-map (λ p. p.0) ps c.loop-pin.pin ∙ c.pin_name.ensures ∙ ap Some same

pub loop-pin-preserved : goal.loop-pin-preserved
loop-pin-preserved c =
    let ps = pins_of (given_kind c.args.self.now) in
    below_more _ _ c.loop-pin.invariant (λ e.
    let same : c.pin_name.result.now ≡ c.args.name.now = same_Some (sym c.pin_name.ensures ∙ sym (slice_get-map (λ p. p.0) ps c.loop-pin.pin) ∙ e) in
    true≢false (sym ((bytes_eq-Decides c.pin_name.result.now c.args.name.now).1 same) ∙ sym c.eq.ensures ∙ c.if-eq.false))

pub returns : goal.returns
returns c = λ h.
    let ps = pins_of (given_kind c.args.self.now) in
    let names = map (λ p. p.0) ps in
    let below : h.0 < c.loop-pin.pin = omega (arith, h.1, length-map ps (λ p. p.0), c.requires, c.loop-pin-test.false) in
    c.loop-pin.invariant h.0 below (slice_get-get_or names h.0 c.args.name.now h.1 ∙ ap Some h.2)
