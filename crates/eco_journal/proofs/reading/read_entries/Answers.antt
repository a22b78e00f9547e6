use Rattle.std.proofs.Common.{◌∙◌, subst, arith}
use Rattle.std.proofs.lemmas.Result.{err_from_is_err_and}
use Rattle.eco_disk.proofs.Told.{told_at, told_from}
use Rattle.eco_journal.specs.Steps.{IsNext, IsStep}
use Rattle.eco_journal.proofs.ReadSteps.{read_more, bad_further, reads_on}
use Rattle.eco_journal.proofs.reading.read_entries.Goals as goal

pub returns-in_err-entry-clause-bad : goal.returns-in_err-entry-clause-bad
returns-in_err-entry-clause-bad g c =
    let p = err_from_is_err_and c.from_residual.result c.from_residual.ensures.1 in
    rw (p.1, p.2) (told_from _ _ (λ bytes told.
    bad_further bytes _ c.entries.at _ (c.entries.invariant.so_far bytes told) (told_at _ _ bytes (c.entries.invariant.reads.contents ∙ told) c.in_err-entry.ensures.bad)))

pub entries-preserved : goal.entries-preserved
entries-preserved g c =
    let next : IsNext c.entries.at c.args.len c.in_ok-entry.field-0 = c.in_ok-entry.ensures.next in
    let is_next = subst (IsNext c.entries.at c.args.len) c.in-Entry.is next in
    record {
      within = is_next.1;
      reads = reads_on c.entries.invariant.reads c.in_ok-entry.ensures.reads;
      count = omega (arith, c.entries.invariant.count, c.in_ok-entry.ensures.count);
      so_far = λ bytes told.
          let so_far = c.entries.invariant.so_far bytes told in
          let found : IsStep bytes c.entries.at c.in_ok-entry.field-0 = told_at _ _ bytes (c.entries.invariant.reads.contents ∙ told) c.in_ok-entry.ensures.step in
          let step = subst (IsStep bytes c.entries.at) c.in-Entry.is found in
          let long = told_at _ _ bytes told c.requires.length in
          rw c.in_ok-push-in-Entry.ensures.items (read_more bytes c.entries.entries.items c.in-Entry.entry c.entries.at c.in-Entry.next so_far step is_next.0 (omega (arith, is_next.1, long)));
    }
