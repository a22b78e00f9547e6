use Rattle.std.proofs.Common.{[], ◌∷◌, subst}
use Rattle.std.proofs.lemmas.Result.{err_from_is_err_and}
use Rattle.eco_disk.specs.Disk.{Passes, Torn}
use Rattle.eco_disk.proofs.Moments.{during_then, has_kept}
use Rattle.eco_disk.specs.declared.call.Call.TheVariants.{Write, Sync}
use Rattle.eco_disk.proofs.Called.{all_made, some_made, order_then}
use Rattle.eco_journal.proofs.Fresh.{laid_behind, laid_gate, unopened_written, laid_open}
use Rattle.eco_journal.proofs.header.lay.Goals as goal

pub returns-in_err-write_kept-clause-crash : goal.returns-in_err-write_kept-clause-crash
returns-in_err-write_kept-clause-crash g c digest head is same has =
    let p = err_from_is_err_and c.from_residual.result c.from_residual.ensures.1 in
    let passes = subst (λ n. Passes (g.D.Disk.moment c.args.disk.now) (g.D.Disk.moment c.write_kept.new.disk) (g.D.Disk.image c.args.disk.now) (g.D.Disk.image c.write_kept.new.disk) (Torn 1 n)) c.requires.size c.write_kept.ensures.crash in
    rw p.1 (laid_behind digest has passes, tt)

pub returns-clause-crash : goal.returns-clause-crash
returns-clause-crash g c digest head is same has =
    let passes = subst (λ n. Passes (g.D.Disk.moment c.args.disk.now) (g.D.Disk.moment c.write_kept.new.disk) (g.D.Disk.image c.args.disk.now) (g.D.Disk.image c.write_kept.new.disk) (Torn 1 n)) c.requires.size c.write_kept.ensures.crash in
    let behind = has_kept has c.in_ok-write_kept.ensures.written c.in_ok-write_kept.ensures.kept (λ d x was done. unopened_written head c.args.header.now d x same c.requires.size was done) in (
      during_then (laid_behind digest has passes) (laid_gate is behind c.write_kept-2.ensures.crash),
      laid_open head _ _ c.write_kept-2.result behind c.write_kept-2.ensures.written c.write_kept-2.ensures.kept,
    )

pub returns-in_err-write_kept-clause-calls : goal.returns-in_err-write_kept-clause-calls
returns-in_err-write_kept-clause-calls g c =
    let p = err_from_is_err_and c.from_residual.result c.from_residual.ensures.1 in
    rw p.1 (some_made p.0 (Write 0 (1 ∷ []) ∷ Sync ∷ []) c.in_err-write_kept.ensures.calls)

pub returns-clause-calls : goal.returns-clause-calls
returns-clause-calls g c = order_then (all_made c.in_ok-write_kept.ensures.calls) c.write_kept-2.ensures.calls
