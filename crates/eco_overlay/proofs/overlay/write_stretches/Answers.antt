use Rattle.std.proofs.Common.{◌≡◌, ◌++◌, ◌+◌, ap, sym, ◌∙◌, length, drop, get_or, slice_range, append_assoc}
use Rattle.std.proofs.lemmas.List.{take_rest}
use Rattle.std.proofs.lemmas.Result.{err_from_is_err_and}
use Rattle.eco_text.proofs.Sequence.{then, longer}
use Rattle.eco_overlay.specs.declared.stretch.Stretch.{Stretch}
use Rattle.eco_issued_laws.specs.Issued.{edited}
use Rattle.eco_overlay.specs.Overlays.{edits_of}
use Rattle.eco_overlay.proofs.Editing.{edited_on, edited_end, rises_on}
use Rattle.eco_overlay.proofs.overlay.write_stretches.Goals as goal

pub returns-in_err-write_both : goal.returns-in_err-write_both
returns-in_err-write_both g c =
    let text = c.args.text.now in
    let bytes = c.args.bytes.now in
    let ss = c.args.stretches.now in
    let n = c.loop-stretch.stretch-index in
    let i = c.loop-stretch.invariant in
    let d : Stretch = record { start = 0; end = 0; upto = 0 } in
    let s = get_or ss n d in
    let new = slice_range text c.loop-stretch.at s.start ++ slice_range bytes c.loop-stretch.from s.upto in
    let after = edited text s.end (edits_of bytes s.upto (drop (n + 1) ss)) in
    let whole : (i.0 ++ new) ++ after ≡ edited text 0 (edits_of bytes 0 ss) =
    append_assoc i.0 new after ∙ ap (λ zs. i.0 ++ zs) (sym (edited_on text bytes c.loop-stretch.at c.loop-stretch.from n ss d c.loop-stretch-test.true)) ∙ i.2 in
    let p = err_from_is_err_and c.from_residual.result c.from_residual.ensures.1 in
    rw (p.1, p.2, ← whole) (longer after (then i.1 (rw (c.between-kept.ensures, c.part-new.ensures) at c.in_err-write_both.ensures)))

pub loop-stretch-preserved : goal.loop-stretch-preserved
loop-stretch-preserved g c =
    let text = c.args.text.now in
    let bytes = c.args.bytes.now in
    let ss = c.args.stretches.now in
    let n = c.loop-stretch.stretch-index in
    let i = c.loop-stretch.invariant in
    let d : Stretch = record { start = 0; end = 0; upto = 0 } in
    let s = get_or ss n d in
    let new = slice_range text c.loop-stretch.at s.start ++ slice_range bytes c.loop-stretch.from s.upto in
    let after = edited text s.end (edits_of bytes s.upto (drop (n + 1) ss)) in (
      i.0 ++ new,
      then i.1 (rw (c.between-kept.ensures, c.part-new.ensures) at c.in_ok-write_both.ensures),
      append_assoc i.0 new after ∙ ap (λ zs. i.0 ++ zs) (sym (edited_on text bytes c.loop-stretch.at c.loop-stretch.from n ss d c.loop-stretch-test.true)) ∙ i.2,
      (rises_on c.loop-stretch.from (length bytes) n ss d c.loop-stretch-test.true i.3).1,
    )

pub returns : goal.returns
returns g c =
    let text = c.args.text.now in
    let bytes = c.args.bytes.now in
    let ss = c.args.stretches.now in
    let i = c.loop-stretch.invariant in
    let whole : i.0 ++ slice_range text c.loop-stretch.at (length text) ≡ edited text 0 (edits_of bytes 0 ss) =
    ap (λ zs. i.0 ++ zs) (take_rest text c.loop-stretch.at ∙ sym (edited_end text bytes c.loop-stretch.at c.loop-stretch.from c.loop-stretch.stretch-index ss c.loop-stretch-test.false)) ∙ i.2 in
    rw (← whole) (then i.1 (rw c.between.ensures at c.write_piece.ensures))
