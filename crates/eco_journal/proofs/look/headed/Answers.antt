use Rattle.std.proofs.Common.{◌≡◌, ◌+◌, length, Some, sym, ◌∙◌, subst, ap, arith, IsTrue, IsFalse, take, drop, nat_lt}
use Rattle.std.proofs.lemmas.Result.{err_from_is_err_and}
use Rattle.std.proofs.lemmas.Bool.{ltb-false}
use Rattle.eco_disk.proofs.Told.{told_at, told_from}
use Rattle.eco_journal.specs.Layout.{is_fresh, has_header, bad_place}
use Rattle.eco_journal.specs.Reading.{IsReadAll, listed_in}
use Rattle.eco_journal.specs.Steps.{BadAt}
use Rattle.eco_journal.specs.Start.{AreEntries, DiffersAt, IsUnfinishedIn}
use Rattle.eco_journal.specs.Sound.{IsSound}
use Rattle.eco_journal.proofs.Listing.{listing_of, listing_entries, read_are, read_during, read_has, told_bytes, no_head_fault, no_list_fault, read_entries_are, found_sound, some_is}
use Rattle.eco_journal.specs.Calls.{settle_calls, end_calls}
use Rattle.eco_journal.proofs.ReadSteps.{reads_on}
use Rattle.eco_journal.proofs.Unfinished.{whole_as}
use Rattle.eco_journal.proofs.Changes.{end_is, follows_is}
use Rattle.eco_journal.proofs.look.headed.Goals as goal

pub returns-in_err-check_head-clause-crash : goal.returns-in_err-check_head-clause-crash
returns-in_err-check_head-clause-crash g c bytes payloads whole old are has =
    let p = err_from_is_err_and c.from_residual.result c.from_residual.ensures.1 in
    let l = listing_of c.args.digest.now bytes whole old in
    let told = told_bytes bytes has in
    let bad = told_at (g.D.Disk.contents c.args.disk.now) (λ bytes. BadAt (λ place. (place ≡ 0) × IsFalse (has_header bytes)) c.in_err-check_head.field-0.0) bytes told c.in_err-check_head.ensures.bad in
    let differs = told_at (g.D.Disk.contents c.args.disk.now) (λ bytes. DiffersAt bytes c.args.digest.now c.in_err-check_head.field-0.0) bytes told c.in_err-check_head.ensures.differs in
    rw (p.1, p.2) (record {
      any_moment = read_during bytes has (whole_as c.args.digest.now bytes payloads whole are) c.check_head.ensures.reads.crash;
      found = tt;
      no_refusal = no_head_fault c.args.digest.now bytes l c.in_err-check_head.field-0.0 bad differs;
    })

pub returns-in_err-found-clause-crash : goal.returns-in_err-found-clause-crash
returns-in_err-found-clause-crash g c bytes payloads whole old are has =
    let p = err_from_is_err_and c.from_residual-in_err-found.result c.from_residual-in_err-found.ensures.1 in
    let l = listing_of c.args.digest.now bytes whole old in
    let told = c.check_head.ensures.reads.contents ∙ told_bytes bytes has in
    let reads = reads_on c.check_head.ensures.reads c.read_entries.ensures.reads in
    let bad = told_at (g.D.Disk.contents c.check_head.new.disk) (λ bytes. BadAt (λ place. bad_place (listed_in bytes) ≡ Some place) c.in_err-found.field-0.0) bytes told c.in_err-found.ensures.bad in
    rw (p.1, p.2) (record {
      any_moment = read_during bytes has (whole_as c.args.digest.now bytes payloads whole are) reads.crash;
      found = tt;
      no_refusal = no_list_fault c.args.digest.now bytes l c.in_err-found.field-0.0 bad c.in_err-found.ensures.same_base;
    })

pub returns-clause-crash : goal.returns-clause-crash
returns-clause-crash g c bytes payloads whole old are has =
    let l = listing_of c.args.digest.now bytes whole old in
    let told = c.check_head.ensures.reads.contents ∙ told_bytes bytes has in
    let len = told_at (g.D.Disk.contents c.args.disk.now) (λ bytes. c.args.len ≡ length bytes) bytes (told_bytes bytes has) c.requires in
    let reads = reads_on c.check_head.ensures.reads c.read_entries.ensures.reads in
    let read = told_at (g.D.Disk.contents c.check_head.new.disk) (λ bytes. IsReadAll bytes c.in_ok-found.found.entries.items c.in_ok-found.found.at c.in_ok-found.found.gate) bytes told c.in_ok-found.ensures.all in
    let kept = read_has bytes has reads.contents reads.crash in
    let sound = found_sound c.args.digest.now bytes l c.in_ok-found.found.entries.items c.in_ok-found.found.at c.in_ok-found.found.gate read kept (nat_lt (c.in_ok-found.found.at + 1) c.args.len) (λ no. omega (arith, ltb-false (c.in_ok-found.found.at + 1) c.args.len no, len)) in
    let same : Some c.in_ok-found.found.entries.items ≡ Some payloads =
    ap Some (read_are c.args.digest.now bytes l c.in_ok-found.found.entries.items c.in_ok-found.found.at c.in_ok-found.found.gate read) ∙ sym (listing_entries c.args.digest.now bytes l) ∙ are in
    record {
      any_moment = read_during bytes has (whole_as c.args.digest.now bytes payloads whole are) reads.crash;
      found =
          let are_payloads = some_is c.in_ok-found.found.entries.items payloads same in
          let standing = sym c.standing_of.ensures in
          let sound_here = subst (λ s. IsSound c.args.digest.now c.in_ok-found.found.entries.items sound.0 (g.D.Disk.contents c.read_entries.new.disk) (g.D.Disk.image c.read_entries.new.disk (g.D.Disk.moment c.read_entries.new.disk)) c.in_ok-found.found.at s) standing sound.1 in
          record {
            entries_are = are_payloads;
            last = sound.0;
            sound = subst (λ ps. IsSound c.args.digest.now ps sound.0 (g.D.Disk.contents c.read_entries.new.disk) (g.D.Disk.image c.read_entries.new.disk (g.D.Disk.moment c.read_entries.new.disk)) c.in_ok-found.found.at c.standing_of.result) are_payloads sound_here;
            unfinished = λ torn. subst (λ ps. IsUnfinishedIn c.args.digest.now bytes ps sound.0) are_payloads (sound.2 (standing ∙ torn));
          };
      no_refusal = tt;
    }

pub returns-clause-found : goal.returns-clause-found
returns-clause-found g c = told_from (g.D.Disk.contents c.args.disk.now) (λ bytes. IsFalse (is_fresh bytes) → AreEntries c.args.digest.now bytes c.in_ok-found.found.entries.items) (λ bytes told old.
    let head = told_at (g.D.Disk.contents c.args.disk.now) (λ bytes. IsTrue (has_header bytes) × (take 32 (drop 9 bytes) ≡ c.args.digest.now)) bytes told c.in_ok-check_head.ensures.head in
    let read = told_at (g.D.Disk.contents c.check_head.new.disk) (λ bytes. IsReadAll bytes c.in_ok-found.found.entries.items c.in_ok-found.found.at c.in_ok-found.found.gate) bytes (c.check_head.ensures.reads.contents ∙ told) c.in_ok-found.ensures.all in
    (read_entries_are bytes c.in_ok-found.found.entries.items c.in_ok-found.found.at c.in_ok-found.found.gate old head.0 read, λ has. head.1))

pub returns-clause-ended : goal.returns-clause-ended
returns-clause-ended g c = told_from (g.D.Disk.contents c.args.disk.now) (λ bytes. IsFalse (is_fresh bytes) → settle_calls c.standing_of.result c.in_ok-found.found.at (nat_lt (c.in_ok-found.found.at + 1) c.args.len) ≡ end_calls bytes) (λ bytes told old.
    let read = told_at (g.D.Disk.contents c.check_head.new.disk) (λ bytes. IsReadAll bytes c.in_ok-found.found.entries.items c.in_ok-found.found.at c.in_ok-found.found.gate) bytes (c.check_head.ensures.reads.contents ∙ told) c.in_ok-found.ensures.all in
    let len = told_at (g.D.Disk.contents c.args.disk.now) (λ bytes. c.args.len ≡ length bytes) bytes told c.requires in
    ap (λ s. settle_calls s c.in_ok-found.found.at (nat_lt (c.in_ok-found.found.at + 1) c.args.len)) c.standing_of.ensures
    ∙ end_is bytes c.in_ok-found.found.entries.items c.in_ok-found.found.at c.in_ok-found.found.gate (nat_lt (c.in_ok-found.found.at + 1) c.args.len) old read (follows_is bytes c.in_ok-found.found.at c.args.len len))
