use Rattle.std.proofs.Common.{◌≡◌, ◌<◌, length, drop, take, sym, ◌∙◌, arith, refl, slice_range, IsTrue}
use Rattle.eco_disk.proofs.Told.{told_at, told_from}
use Rattle.eco_journal.specs.Layout.{has_header}
use Rattle.eco_journal.specs.Start.{DiffersAt}
use Rattle.eco_journal.specs.declared.faults.JournalFault.TheVariants.{BaseDiffers}
use Rattle.eco_journal.proofs.Heads.{head_digest, header_tests, same_digests, other_digests}
use Rattle.eco_journal.proofs.header.check_head.Goals as goal

pub returns-then-not-is_same-clause-differs : goal.returns-then-not-is_same-clause-differs
returns-then-not-is_same-clause-differs g c = told_from (g.D.Disk.contents c.args.disk.now) (λ bytes. DiffersAt bytes c.args.digest.now (BaseDiffers c.kept_digest-kept.result c.args.digest.now)) (λ bytes told.
    let len = told_at (g.D.Disk.contents c.args.disk.now) (λ bytes. c.args.len ≡ length bytes) bytes told c.requires in
    let long : 41 < length bytes = omega (arith, len, c.if-len-le-FIRST_GATE.false) in
    let read = told_at (g.D.Disk.contents c.args.disk.now) (λ bytes. c.read.new.piece ≡ slice_range bytes 0 41) bytes told c.in_ok-read.ensures.read in
    let tests = header_tests bytes c.read.new.piece long read in
    let digest = head_digest bytes c.read.new.piece long read in
    (tests ∙ sym c.is_headed.ensures ∙ c.if-not-is_headed.false, c.kept_digest-kept.ensures ∙ digest, refl, other_digests _ _ (sym c.is_same.ensures ∙ c.if-not-is_same.true)))

pub returns-clause-head : goal.returns-clause-head
returns-clause-head g c = told_from (g.D.Disk.contents c.args.disk.now) (λ bytes. IsTrue (has_header bytes) × take 32 (drop 9 bytes) ≡ c.args.digest.now) (λ bytes told.
    let len = told_at (g.D.Disk.contents c.args.disk.now) (λ bytes. c.args.len ≡ length bytes) bytes told c.requires in
    let long : 41 < length bytes = omega (arith, len, c.if-len-le-FIRST_GATE.false) in
    let read = told_at (g.D.Disk.contents c.args.disk.now) (λ bytes. c.read.new.piece ≡ slice_range bytes 0 41) bytes told c.in_ok-read.ensures.read in
    let tests = header_tests bytes c.read.new.piece long read in
    let digest = head_digest bytes c.read.new.piece long read in
    (tests ∙ sym c.is_headed.ensures ∙ c.if-not-is_headed.false, sym digest ∙ sym c.kept_digest-kept.ensures ∙ same_digests _ _ (sym c.is_same.ensures ∙ c.if-not-is_same.false)))
