use Rattle.std.proofs.Common.{◌∙◌, ap, [], slice_get, refl, subst, ◌<◌, length}
use Rattle.std.specs.Option.{option_map}
use Rattle.eco_net.specs.declared.kind.Kind.{Kind}
use Rattle.eco_net.specs.Netlist.{pins_of}
use Rattle.eco_net.specs.Listing.{given_kind}
use Rattle.eco_net.proofs.KindPins.{input_at, output_at, box_at}
use Rattle.eco_net.proofs.kind.Kind.pin_use.Goals as goal

pub returns-then-pin-inputs : goal.returns-then-pin-inputs
returns-then-pin-inputs c =
    let m = c.in-Gate.master in
    ap (λ (k : Kind). option_map (λ p. p.1) (slice_get (pins_of (given_kind k)) c.args.pin)) c.in-Gate.is
    ∙ ap (option_map (λ p. p.1)) (input_at m c.inputs-inputs.result.now m.outputs c.inputs-inputs.ensures.value refl c.args.pin [] c.if-pin-inputs.true)

pub returns-else-pin-inputs : goal.returns-else-pin-inputs
returns-else-pin-inputs c =
    let m = c.in-Gate.master in
    ap (λ (k : Kind). option_map (λ p. p.1) (slice_get (pins_of (given_kind k)) c.args.pin)) c.in-Gate.is
    ∙ ap (option_map (λ p. p.1)) (output_at m c.inputs-inputs.result.now c.outputs.result.now c.inputs-inputs.ensures.value c.outputs.ensures.value c.args.pin c.index-outputs-pin.result c.if-pin-inputs.false
    (subst (λ (k : Kind). c.args.pin < length (pins_of (given_kind k))) c.in-Gate.is c.requires))

pub returns-in-Boxed : goal.returns-in-Boxed
returns-in-Boxed c =
    ap (λ (k : Kind). option_map (λ p. p.1) (slice_get (pins_of (given_kind k)) c.args.pin)) c.in-Boxed.is
    ∙ ap (option_map (λ p. p.1)) (box_at c.in-Boxed.pins c.as_slice.result.now c.as_slice.ensures c.args.pin c.index-as_slice-pin.result
    (subst (λ (k : Kind). c.args.pin < length (pins_of (given_kind k))) c.in-Boxed.is c.requires))
