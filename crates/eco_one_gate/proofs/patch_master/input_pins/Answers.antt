use Rattle.std.proofs.Common.{◌∷◌, [], ◌++◌, ◌∙◌, sym, ap₂, arith}
use Rattle.std.proofs.lemmas.List.FromFn.{map-range_with_len_more}
use Rattle.eco_patch_laws.specs.Insertion.{input_pin}
use Rattle.eco_one_gate.proofs.patch_master.input_pins.Goals as goal

pub loop-place-preserved : goal.loop-place-preserved
loop-place-preserved c =
    c.in_ok-push.ensures.items
    ∙ ap₂ (λ ns n. ns ++ n ∷ []) c.loop-place.invariant c.in_ok-of.ensures
    ∙ sym (map-range_with_len_more input_pin 0 c.loop-place.place c.loop-place.place (omega arith))
