use Rattle.std.proofs.Common.{refl, ⊎_elim}
use Rattle.std.proofs.lemmas.Result.{err_from_is_err_and}
use Rattle.eco_cli.specs.ApplyCommand.{apply_of, GivesPatched, RefusesPatch}
use Rattle.eco_cli.proofs.NoBase.{not_opened}
use Rattle.eco_cli.proofs.applying.patch.Goals as goal

pub returns-in_err-base : goal.returns-in_err-base
returns-in_err-base c =
    let p = err_from_is_err_and c.from_residual.result c.from_residual.ensures.1 in
    let t = c.args.texts in
    let gives = GivesPatched (apply_of c.args.asked.now) t.lef.items t.def.items t.functions.items t.desk.items in
    let refuses = RefusesPatch (apply_of c.args.asked.now) t.lef.items t.def.items t.functions.items t.desk.items in
    rw (p.1, p.2) (not_opened gives refuses t c.in_err-base.field-0.0 (λ f refused. refused) c.in_err-base.ensures)

pub returns-in-Ok-apply_one : goal.returns-in-Ok-apply_one
returns-in-Ok-apply_one c = (
  (
    record {
      base = c.in_ok-base.base;
      opened = c.in_ok-base.ensures;
      one = c.in-Ok.one;
      order = c.in-Ok.ensures;
      overlay = c.in-Ok-apply_one.overlay;
      applied = c.in-Ok-apply_one.ensures.applies;
      written = rw (c.issued.ensures.text, c.issued.ensures.overlay) refl;
    },
    refl,
  ),
  (
    rw (c.issued.ensures.text, c.issued.ensures.design) c.in_ok-base.ensures.base.read.reading,
    rw (c.issued.ensures.text, c.issued.ensures.design, c.issued.ensures.overlay) c.in-Ok-apply_one.ensures.made,
  ),
)

pub returns-in-Err : goal.returns-in-Err
returns-in-Err c = ⊎_elim
    (λ m. rw m.1 tt)
    (λ r. rw r.1 (c.in_ok-base.base, c.in_ok-base.ensures, record { one = c.in-Ok.one; order = c.in-Ok.ensures; refused = c.in-Err.ensures.applies; reason = r.0 }))
    c.failed.ensures
