use Rattle.std.proofs.Common.{◌≢◌, ◌∷◌, Err, refl, ◌∙◌, IfErr}
use Rattle.std.proofs.lemmas.Result.{err_from_is_err_and}
use Rattle.eco_journal.specs.declared.faults.JournalFault.TheVariants.{Disk}
use Rattle.eco_disk.specs.Calls.{MakesInOrder, changes_of}
use Rattle.eco_disk.specs.declared.call.Call.TheVariants.{Sync}
use Rattle.eco_disk.proofs.Told.{told_at, told_from}
use Rattle.eco_disk.proofs.Called.{changes_made, order_then}
use Rattle.eco_journal.specs.Calls.{fresh_calls}
use Rattle.eco_journal.proofs.Changes.{first_made}
use Rattle.eco_journal.proofs.Starts.{not_synced, kept_only, synced, whole_now}
use Rattle.eco_journal.proofs.start.open.Goals as goal

pub returns-in_err-sync-clause-crash : goal.returns-in_err-sync-clause-crash
returns-in_err-sync-clause-crash g c bytes payloads told are has =
    let p = err_from_is_err_and c.from_residual.result c.from_residual.ensures.1 in
    rw (p.1, p.2) (not_synced c.args.digest.now bytes payloads (λ never. never refl) has c.sync.ensures.crash, tt, tt)

pub returns-clause-crash : goal.returns-clause-crash
returns-clause-crash g c bytes payloads told are has =
    let only = kept_only bytes (c.sync.ensures.contents ∙ told) c.in_ok-sync.ensures.kept in
    let looked = c.look.ensures.crash bytes payloads (whole_now c.args.digest.now bytes told has) are only in (
      synced (IfErr c.look.result (λ e. e ≢ Disk)) c.args.digest.now bytes payloads has c.sync.ensures.crash looked.any_moment,
      looked.found,
      looked.no_refusal,
    )

pub returns-in_err-sync-clause-calls : goal.returns-in_err-sync-clause-calls
returns-in_err-sync-clause-calls g c =
    let p = err_from_is_err_and c.from_residual.result c.from_residual.ensures.1 in
    rw p.1 (told_from (g.D.Disk.contents c.args.disk.now) (λ bytes. MakesInOrder (changes_of (g.D.Disk.calls c.args.disk.now)) (changes_of (g.D.Disk.calls c.sync.new.self)) (Sync ∷ fresh_calls c.args.digest.now bytes) (Err p.0))
    (λ bytes told. first_made (fresh_calls c.args.digest.now bytes) p.0 (changes_made c.sync.ensures.calls)))

pub returns-clause-calls : goal.returns-clause-calls
returns-clause-calls g c = told_from (g.D.Disk.contents c.args.disk.now) (λ bytes. MakesInOrder (changes_of (g.D.Disk.calls c.args.disk.now)) (changes_of (g.D.Disk.calls c.look.new.disk)) (Sync ∷ fresh_calls c.args.digest.now bytes) c.look.result) (λ bytes told.
    order_then (changes_made c.sync.ensures.calls)
    (told_at (g.D.Disk.contents c.sync.new.self) (λ bytes. MakesInOrder (changes_of (g.D.Disk.calls c.sync.new.self)) (changes_of (g.D.Disk.calls c.look.new.disk)) (fresh_calls c.args.digest.now bytes) c.look.result) bytes (c.sync.ensures.contents ∙ told) c.look.ensures.calls))
