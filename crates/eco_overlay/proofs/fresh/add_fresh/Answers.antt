use Rattle.std.proofs.Common.{ap, sym, ◌∙◌, ◌++◌, map}
use Rattle.std.proofs.lemmas.List.Folds.{flat_map-map}
use Rattle.eco_def.specs.View.{design_in}
use Rattle.eco_issued_laws.specs.Issued.{fresh_text}
use Rattle.eco_overlay.specs.NetChanges.{fresh_of}
use Rattle.eco_overlay.proofs.Writing.{on_ok}
use Rattle.eco_overlay.proofs.Lean.{appended_is, nil_map, not_nil}
use Rattle.eco_overlay.proofs.fresh.add_fresh.Goals as goal

pub returns : goal.returns
returns c =
    let d = c.args.design.now in
    let k = c.args.changes.now in
    let fs = map (fresh_of k) k.fresh.items in
    on_ok c.add.result
    (λ added text. added ∙ ap (λ es. c.args.overlay.now ++ es) (appended_is (design_in text d).nets fs c.deref-2.result.now
    (nil_map (fresh_of k) k.fresh.items ∙ not_nil k.fresh.items k.fresh.len (sym c.is_empty.ensures ∙ c.if-is_empty.false) k.fresh.ok.0)
    (c.deref-2.ensures.value ∙ (rw c.deref.ensures.value at c.in_ok-bytes.ensures) ∙ sym (flat_map-map fresh_text (fresh_of k) k.fresh.items))))
    c.add.ensures
