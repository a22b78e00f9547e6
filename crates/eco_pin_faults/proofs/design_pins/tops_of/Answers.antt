use Rattle.std.proofs.Common.{◌∙◌, ℕ, cond, List, get_or, Option, Some, None, sym, ap}
use Rattle.std.specs.Option.{option_or}
use Rattle.std.specs.Str.{bytes_eq}
use Rattle.eco_def.specs.declared.design.TopPin.{TopPin}
use Rattle.eco_text.specs.Cursor.{word_bytes}
use Rattle.eco_elaborate.proofs.Fillers.{no_pin}
use Rattle.eco_pin_faults.specs.Held.{at_name}
use Rattle.eco_pin_faults.proofs.Lists.{first_named_more}
use Rattle.eco_pin_faults.proofs.design_pins.tops_of.Goals as goal

pub loop-pin-preserved : goal.loop-pin-preserved
loop-pin-preserved c n =
    let text = c.args.text.now in
    let x : TopPin = get_or c.args.pins.now c.loop-pin.pin-index no_pin in
    c.in_ok-add_top.ensures n
    ∙ ap (λ (m : List ℕ). option_or (at_name c.loop-pin.tops n) (cond (bytes_eq m n) (Some x) None)) c.bytes_at-name.ensures
    ∙ ap (λ (o : Option TopPin). option_or o (cond (bytes_eq (word_bytes text x.name) n) (Some x) None)) (c.loop-pin.invariant n)
    ∙ sym (first_named_more (λ (p : TopPin). word_bytes text p.name) c.args.pins.now c.loop-pin.pin-index no_pin n c.loop-pin-test.true)
