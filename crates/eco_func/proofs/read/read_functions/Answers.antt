use Rattle.std.proofs.Common.{ap, ◌∙◌, sym, Ok, Vec, Global, arith}
use Rattle.std.proofs.lemmas.Result.{err_from_is_err_and}
use Rattle.toml.specs.View.{table_view}
use Rattle.eco_func.specs.declared.master.MasterFn.{MasterFn}
use Rattle.eco_func.proofs.ByName.{by_name, no_more, too_many, reads_fault}
use Rattle.eco_func.proofs.read.read_functions.Goals as goal

pub returns-then-count-gt-MAX_MASTERS-clause-reads : goal.returns-then-count-gt-MAX_MASTERS-clause-reads
returns-then-count-gt-MAX_MASTERS-clause-reads c =
    (table_view c.in-Ok.document, c.in-Ok.ensures.ok.0, c.in-Ok.ensures.ok.1, too_many c.in-Ok.document.entries c.len-count.result c.len-count.ensures.len c.if-count-gt-MAX_MASTERS.true)

pub returns-in_err-masters-clause-reads : goal.returns-in_err-masters-clause-reads
returns-in_err-masters-clause-reads c =
    let p = err_from_is_err_and c.from_residual.result c.from_residual.ensures.1 in
    rw (p.1, p.2) (reads_fault (λ (masters : Vec MasterFn Global). masters.items) c.args.text.now c.in-Ok.document.entries c.in-Ok.ensures.ok.0 c.in-Ok.ensures.ok.1
    (omega (arith, c.if-count-gt-MAX_MASTERS.false, c.len-count.ensures.len)) c.in_err-masters.field-0.0 c.in_err-masters.ensures.said)

pub of-requires : goal.of-requires
of-requires c = by_name c.in-Ok.document.entries c.in_ok-masters.masters.items c.len-count.ensures.ordered c.in_ok-masters.ensures.said

pub returns-clause-reads : goal.returns-clause-reads
returns-clause-reads c = (
  table_view c.in-Ok.document,
  c.in-Ok.ensures.ok.0,
  c.in-Ok.ensures.ok.1,
  no_more c.in-Ok.document.entries (omega (arith, c.if-count-gt-MAX_MASTERS.false, c.len-count.ensures.len)) ∙ c.in_ok-masters.ensures.said ∙ ap Ok (sym c.of.ensures),
)
