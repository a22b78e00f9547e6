use Rattle.std.proofs.Common.{[], Err, sym, ◌∙◌, subst}
use Rattle.std.proofs.lemmas.Result.{err_from_is_err_and}
use Rattle.eco_disk.proofs.Told.{told_at, told_from}
use Rattle.eco_disk.specs.Calls.{MakesInOrder, changes_of}
use Rattle.eco_disk.proofs.Called.{makes_then, changes_made, in_order, order_then, order_changes}
use Rattle.eco_journal.specs.Calls.{fresh_calls}
use Rattle.eco_journal.proofs.Changes.{first_made, changes_fresh, fresh_is, none_is}
use Rattle.eco_journal.specs.Start.{IsBeginning, Finds}
use Rattle.eco_journal.proofs.Fresh.{begins_fresh, fresh_entries}
use Rattle.eco_journal.proofs.Listing.{read_during, read_has, told_bytes, some_is}
use Rattle.eco_journal.proofs.Looking.{finds_on, reads_len}
use Rattle.eco_journal.proofs.Unfinished.{whole_as}
use Rattle.eco_journal.proofs.ReadSteps.{reads_on}
use Rattle.eco_journal.proofs.look.look.Goals as goal

pub returns-in_err-len-clause-crash : goal.returns-in_err-len-clause-crash
returns-in_err-len-clause-crash g c bytes payloads whole are has =
    let p = err_from_is_err_and c.from_residual.result c.from_residual.ensures.1 in
    rw (p.1, p.2) (record { any_moment = read_during bytes has (whole_as c.args.digest.now bytes payloads whole are) c.len.ensures.crash; found = tt; no_refusal = tt })

pub returns-in_err-shut-clause-crash : goal.returns-in_err-shut-clause-crash
returns-in_err-shut-clause-crash g c bytes payloads whole are has =
    let p = err_from_is_err_and c.from_residual-in_err-shut.result c.from_residual-in_err-shut.ensures.1 in
    let reads = reads_on (reads_len c.len.ensures.contents c.len.ensures.crash c.len.ensures.calls) c.how_it_begins.ensures.reads in
    rw (p.1, p.2) (record { any_moment = read_during bytes has (whole_as c.args.digest.now bytes payloads whole are) reads.crash; found = tt; no_refusal = tt })

pub returns-in-Fresh-clause-crash : goal.returns-in-Fresh-clause-crash
returns-in-Fresh-clause-crash g c bytes payloads whole are has =
    let reads = reads_on (reads_len c.len.ensures.contents c.len.ensures.crash c.len.ensures.calls) c.how_it_begins.ensures.reads in
    let begins = told_at (g.D.Disk.contents c.len.new.self) (λ bytes. IsBeginning bytes c.in_ok-shut.field-0) bytes (c.len.ensures.contents ∙ told_bytes bytes has) c.in_ok-shut.ensures.beginning in
    let fresh = subst (IsBeginning bytes) c.in-Fresh.is begins in
    let none = some_is [] payloads (sym (fresh_entries bytes (begins_fresh bytes c.in-Fresh.shut fresh)) ∙ are) in
    let made = c.make.ensures.crash bytes whole fresh (read_has bytes has reads.contents reads.crash) in
    finds_on (read_during bytes has (whole_as c.args.digest.now bytes payloads whole are) reads.crash)
    (subst (λ ps. Finds c.args.digest.now bytes ps (g.D.Disk.contents c.make.new.disk) (g.D.Disk.moment c.how_it_begins.new.disk) (g.D.Disk.moment c.make.new.disk) (g.D.Disk.image c.how_it_begins.new.disk) (g.D.Disk.image c.make.new.disk) c.make.result) none made)

pub returns-in-Headed-clause-crash : goal.returns-in-Headed-clause-crash
returns-in-Headed-clause-crash g c bytes payloads whole are has =
    let reads = reads_on (reads_len c.len.ensures.contents c.len.ensures.crash c.len.ensures.calls) c.how_it_begins.ensures.reads in
    let begins = told_at (g.D.Disk.contents c.len.new.self) (λ bytes. IsBeginning bytes c.in_ok-shut.field-0) bytes (c.len.ensures.contents ∙ told_bytes bytes has) c.in_ok-shut.ensures.beginning in
    let old = subst (IsBeginning bytes) c.in-Headed.is begins in
    finds_on (read_during bytes has (whole_as c.args.digest.now bytes payloads whole are) reads.crash)
    (c.headed.ensures.crash bytes payloads whole old are (read_has bytes has reads.contents reads.crash))

pub returns-in_err-len-clause-calls : goal.returns-in_err-len-clause-calls
returns-in_err-len-clause-calls g c =
    let p = err_from_is_err_and c.from_residual.result c.from_residual.ensures.1 in
    rw p.1 (told_from (g.D.Disk.contents c.args.disk.now) (λ bytes. MakesInOrder (changes_of (g.D.Disk.calls c.args.disk.now)) (changes_of (g.D.Disk.calls c.len.new.self)) (fresh_calls c.args.digest.now bytes) (Err p.0))
    (λ bytes told. first_made (fresh_calls c.args.digest.now bytes) p.0 (changes_made c.len.ensures.calls)))

pub returns-in-Fresh-clause-calls : goal.returns-in-Fresh-clause-calls
returns-in-Fresh-clause-calls g c = told_from (g.D.Disk.contents c.args.disk.now) (λ bytes. MakesInOrder (changes_of (g.D.Disk.calls c.args.disk.now)) (changes_of (g.D.Disk.calls c.make.new.disk)) (fresh_calls c.args.digest.now bytes) c.make.result) (λ bytes told.
    let begins = told_at (g.D.Disk.contents c.len.new.self) (λ bytes. IsBeginning bytes c.in_ok-shut.field-0) bytes (c.len.ensures.contents ∙ told) c.in_ok-shut.ensures.beginning in
    let fresh = subst (IsBeginning bytes) c.in-Fresh.is begins in
    let reads = makes_then (changes_made c.len.ensures.calls) c.how_it_begins.ensures.reads.no_changes in
    order_then reads
    (subst (λ xs. MakesInOrder (changes_of (g.D.Disk.calls c.how_it_begins.new.disk)) (changes_of (g.D.Disk.calls c.make.new.disk)) xs c.make.result)
    (changes_fresh c.in-Fresh.shut c.args.digest.now ∙ fresh_is c.args.digest.now bytes c.in-Fresh.shut fresh (begins_fresh bytes c.in-Fresh.shut fresh))
    (order_changes c.make.result c.make.ensures.calls)))

pub returns-in-Headed-clause-calls : goal.returns-in-Headed-clause-calls
returns-in-Headed-clause-calls g c = told_from (g.D.Disk.contents c.args.disk.now) (λ bytes. MakesInOrder (changes_of (g.D.Disk.calls c.args.disk.now)) (changes_of (g.D.Disk.calls c.headed.new.disk)) (fresh_calls c.args.digest.now bytes) c.headed.result) (λ bytes told.
    let begins = told_at (g.D.Disk.contents c.len.new.self) (λ bytes. IsBeginning bytes c.in_ok-shut.field-0) bytes (c.len.ensures.contents ∙ told) c.in_ok-shut.ensures.beginning in
    let old = subst (IsBeginning bytes) c.in-Headed.is begins in
    let reads = makes_then (makes_then (changes_made c.len.ensures.calls) c.how_it_begins.ensures.reads.no_changes) c.headed.ensures.reads.no_changes in
    subst (λ xs. MakesInOrder (changes_of (g.D.Disk.calls c.args.disk.now)) (changes_of (g.D.Disk.calls c.headed.new.disk)) xs c.headed.result) (sym (none_is c.args.digest.now bytes old)) (in_order c.headed.result reads))
