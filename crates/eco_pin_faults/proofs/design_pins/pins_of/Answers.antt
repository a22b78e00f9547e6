use Rattle.std.proofs.Common.{◌∙◌, List, ap}
use Rattle.std.specs.List.{find}
use Rattle.std.specs.Str.{bytes_eq}
use Rattle.eco_def.specs.declared.design.Comp.{Comp}
use Rattle.eco_def.specs.declared.design.TopPin.{TopPin}
use Rattle.eco_text.specs.Cursor.{word_bytes}
use Rattle.eco_pin_faults.specs.Pins.{of_named}
use Rattle.eco_pin_faults.proofs.Parts.{parts_are}
use Rattle.eco_pin_faults.proofs.design_pins.pins_of.Goals as goal

pub returns : goal.returns
returns c =
    let text = c.args.text.now in
    parts_are text c.args.design.now (record { models = c.in_ok-models.models; tops = c.in_ok-tops.tops })
    (λ n. c.in_ok-models.ensures n ∙ ap (λ (cs : List Comp). of_named (λ (c : Comp). word_bytes text c.name) (λ c. word_bytes text c.model) cs n) c.as_slice.ensures)
    (λ n. c.in_ok-tops.ensures n ∙ ap (find (λ (p : TopPin). bytes_eq (word_bytes text p.name) n)) c.as_slice-2.ensures)
