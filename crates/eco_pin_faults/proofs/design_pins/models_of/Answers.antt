use Rattle.std.proofs.Common.{◌∙◌, ℕ, cond, List, get_or, Option, Some, None, sym, ap}
use Rattle.std.specs.Option.{option_or}
use Rattle.std.specs.Str.{bytes_eq}
use Rattle.eco_def.specs.declared.design.Comp.{Comp}
use Rattle.eco_text.specs.Cursor.{word_bytes}
use Rattle.eco_elaborate.proofs.Fillers.{no_comp}
use Rattle.eco_pin_faults.specs.Held.{model_by}
use Rattle.eco_pin_faults.proofs.Lists.{named_more}
use Rattle.eco_pin_faults.proofs.design_pins.models_of.Goals as goal

pub loop-comp-preserved : goal.loop-comp-preserved
loop-comp-preserved c n =
    let text = c.args.text.now in
    let x : Comp = get_or c.args.comps.now c.loop-comp.comp-index no_comp in
    c.in_ok-add_model.ensures n
    ∙ ap (λ (m : List ℕ). option_or (model_by c.loop-comp.models n) (cond (bytes_eq m n) (Some c.bytes_at-model.result.now) None)) c.bytes_at-name.ensures
    ∙ ap (λ (m : List ℕ). option_or (model_by c.loop-comp.models n) (cond (bytes_eq (word_bytes text x.name) n) (Some m) None)) c.bytes_at-model.ensures
    ∙ ap (λ (o : Option (List ℕ)). option_or o (cond (bytes_eq (word_bytes text x.name) n) (Some (word_bytes text x.model)) None)) (c.loop-comp.invariant n)
    ∙ sym (named_more (λ (c : Comp). word_bytes text c.name) (λ (c : Comp). word_bytes text c.model) c.args.comps.now c.loop-comp.comp-index no_comp n c.loop-comp-test.true)
