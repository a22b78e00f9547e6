use Rattle.std.proofs.Common.{◌∷◌, [], ◌++◌, ap₂, sym, ◌∙◌, arith}
use Rattle.std.proofs.lemmas.List.FromFn.{map-range_with_len_more}
use Rattle.eco_patch_laws.specs.Insertion.{input_pin}
use Rattle.eco_order.proofs.gates.input_pins.Goals as goal

pub loop-place-preserved : goal.loop-place-preserved
loop-place-preserved c =
    c.in_ok-push.ensures.items ∙ ap₂ (λ xs x. xs ++ x ∷ []) c.loop-place.invariant c.in_ok-input_pin.ensures
    ∙ sym (map-range_with_len_more input_pin 0 c.loop-place.place c.loop-place.place (omega arith))
