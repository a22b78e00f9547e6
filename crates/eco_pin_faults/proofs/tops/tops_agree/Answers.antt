use Rattle.std.proofs.Common.{◌∙◌, ap}
use Rattle.std.specs.List.{find}
use Rattle.std.specs.Str.{bytes_eq}
use Rattle.eco_def.specs.declared.design.TopPin.{TopPin}
use Rattle.eco_text.specs.Cursor.{word_bytes}
use Rattle.eco_pin_faults.proofs.Told.{all_right_by}
use Rattle.eco_pin_faults.proofs.tops.tops_agree.Goals as goal

pub returns : goal.returns
returns c =
    c.all_are_right.ensures
    ∙ all_right_by c.args.text.now c.args.design.now c.in_ok-tops.tops c.as_slice-2.result.now c.as_slice-2.ensures
    (λ n. c.in_ok-tops.ensures n ∙ ap (find (λ (p : TopPin). bytes_eq (word_bytes c.args.text.now p.name) n)) c.as_slice.ensures)
