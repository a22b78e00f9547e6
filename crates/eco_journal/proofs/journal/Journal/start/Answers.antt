use Rattle.std.proofs.Common.{◌≡◌, ◌∷◌, Ok, Err, ◌∙◌, subst}
use Rattle.eco_common.specs.Causes.{Rose}
use Rattle.eco_disk.specs.Calls.{MakesInOrder, changes_of}
use Rattle.eco_disk.specs.declared.call.Call.TheVariants.{Sync}
use Rattle.eco_disk.proofs.Told.{told_at, told_from}
use Rattle.eco_disk.proofs.Called.{all_made, some_made, order_then, order_changes}
use Rattle.eco_journal.specs.Journal.{disk_after}
use Rattle.eco_journal.specs.Calls.{start_calls, fresh_calls, end_calls, found_calls}
use Rattle.eco_journal.proofs.Changes.{changes_settle}
use Rattle.eco_journal.proofs.Forms.{whole_entries}
use Rattle.eco_journal.proofs.Starts.{whole_now}
use Rattle.eco_journal.proofs.Started.{started}
use Rattle.eco_journal.proofs.journal.Journal.start.Goals as goal

pub returns-in-Ok-clause-crash : goal.returns-in-Ok-clause-crash
returns-in-Ok-clause-crash g c bytes payloads told are has =
    let opened = c.in-Ok.ensures.crash bytes payloads told are has in
    let found = opened.1 in
    let settled = c.tidied.ensures.crash c.args.digest payloads found.last found.sound in
    started c.args.digest bytes payloads found.last c.in-Ok.found.standing c.args.disk c.open.new.disk c.in-Ok.found.entries c.tidied.result found.unfinished tt opened.0 found.entries_are settled c.tidied.ensures.entries (λ e. Rose (g.D.Disk.faults c.open.new.disk) (g.D.Disk.faults e.0)) c.tidied.ensures.fault

pub returns-in-Err-clause-crash : goal.returns-in-Err-clause-crash
returns-in-Err-clause-crash g c bytes payloads told are has =
    let opened = c.in-Err.ensures.crash bytes payloads told are has in
    (opened.0, opened.2)

pub returns-in-Err-clause-honest : goal.returns-in-Err-clause-honest
returns-in-Err-clause-honest g c has =
    let whole = whole_now c.args.digest has.bytes has.told has in
    let found = whole_entries c.args.digest has.bytes whole in
    (c.in-Err.ensures.crash has.bytes found.0 has.told found.1 has).2

pub returns-in-Ok-clause-calls : goal.returns-in-Ok-clause-calls
returns-in-Ok-clause-calls g c = told_from (g.D.Disk.contents c.args.disk) (λ bytes. MakesInOrder (changes_of (g.D.Disk.calls c.args.disk)) (changes_of (g.D.Disk.calls (disk_after c.tidied.result))) (start_calls c.args.digest bytes) c.tidied.result) (λ bytes told.
    let opened = told_at (g.D.Disk.contents c.args.disk) (λ bytes. MakesInOrder (changes_of (g.D.Disk.calls c.args.disk)) (changes_of (g.D.Disk.calls c.open.new.disk)) (Sync ∷ fresh_calls c.args.digest bytes) (Ok c.in-Ok.found)) bytes told c.in-Ok.ensures.calls in
    let ended = told_at (g.D.Disk.contents c.args.disk) (λ bytes. found_calls c.in-Ok.found ≡ end_calls bytes) bytes told c.in-Ok.ensures.ended in
    order_then (all_made opened)
    (subst (λ xs. MakesInOrder (changes_of (g.D.Disk.calls c.open.new.disk)) (changes_of (g.D.Disk.calls (disk_after c.tidied.result))) xs c.tidied.result)
    (changes_settle c.in-Ok.found.standing c.in-Ok.found.gate c.in-Ok.found.follows ∙ ended) (order_changes c.tidied.result c.tidied.ensures.calls)))

pub returns-in-Err-clause-calls : goal.returns-in-Err-clause-calls
returns-in-Err-clause-calls g c = told_from (g.D.Disk.contents c.args.disk) (λ bytes. MakesInOrder (changes_of (g.D.Disk.calls c.args.disk)) (changes_of (g.D.Disk.calls c.open.new.disk)) (start_calls c.args.digest bytes) (Err (c.open.new.disk, c.in-Err.fault))) (λ bytes told.
    some_made (c.open.new.disk, c.in-Err.fault) (end_calls bytes)
    (told_at (g.D.Disk.contents c.args.disk) (λ bytes. MakesInOrder (changes_of (g.D.Disk.calls c.args.disk)) (changes_of (g.D.Disk.calls c.open.new.disk)) (Sync ∷ fresh_calls c.args.digest bytes) (Err c.in-Err.fault)) bytes told c.in-Err.ensures.calls))
