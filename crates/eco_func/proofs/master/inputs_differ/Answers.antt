use Rattle.std.proofs.Common.{sym, ◌∙◌, ◌+◌, ◌||◌, Bool, ap, refl}
use Rattle.std.specs.List.{list_any}
use Rattle.std.specs.Str.{bytes_eq}
use Rattle.eco_func.proofs.PinNames.{left_from, input_again, input_new, rest_at}
use Rattle.eco_func.proofs.master.inputs_differ.Goals.{then-is_named-via-then-is_named, then-is_named-via-else-is_named+then-is_pin}
use Rattle.eco_func.proofs.master.inputs_differ.Goals as goal

pub returns-then-is_named : goal.returns-then-is_named
returns-then-is_named c =
    let ins = c.args.inputs.now in
    let i = c.loop-place.place in
    let n = c.index-inputs-place.result in
    let left = left_from ins i n c.loop-place-test.true c.index-inputs-place.is in
    let again = c.is_named.ensures ∙ rest_at ins (i + 1) _ in
    elim c.then-is_named.branch [
      | then-is_named-via-then-is_named w ↦
          let driven : Bool = list_any (λ x. bytes_eq n x.pin) c.args.outputs.now in
          sym (c.loop-place.invariant ∙ input_again ins c.args.outputs.now i n c.is_named.result driven left again refl (ap (λ b. b || driven) w.if-is_named.true))
      | then-is_named-via-else-is_named+then-is_pin w ↦
          sym (c.loop-place.invariant ∙ input_again ins c.args.outputs.now i n c.is_named.result w.is_pin.result left again w.is_pin.ensures (ap (λ b. b || w.is_pin.result) w.if-is_named.false ∙ w.if-is_pin.true))
    ]

pub loop-place-preserved : goal.loop-place-preserved
loop-place-preserved c =
    let ins = c.args.inputs.now in
    let i = c.loop-place.place in
    let n = c.index-inputs-place.result in
    let left = left_from ins i n c.loop-place-test.true c.index-inputs-place.is in
    let again = c.is_named.ensures ∙ rest_at ins (i + 1) _ in
    c.loop-place.invariant ∙ input_new ins c.args.outputs.now i n c.is_named.result c.is_pin.result left again c.is_pin.ensures c.if-is_named.false c.if-is_pin.false
