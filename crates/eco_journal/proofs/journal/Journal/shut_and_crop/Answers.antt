use Rattle.std.proofs.Common.{[], subst, sym, if◌then◌else◌}
use Rattle.std.proofs.lemmas.Result.{err_from_is_err_and}
use Rattle.eco_disk.proofs.Moments.{during_then, during_also}
use Rattle.eco_disk.specs.Calls.{MakesInOrder}
use Rattle.eco_disk.proofs.Called.{all_made, some_made, order_then}
use Rattle.eco_journal.specs.Calls.{settle_calls, crop_calls}
use Rattle.eco_journal.proofs.Changes.{settle_split, order_as}
use Rattle.eco_journal.specs.Sound.{IsSound}
use Rattle.eco_journal.specs.declared.standing.Standing.TheVariants.{Behind, AtGate}
use Rattle.eco_journal.proofs.Soundness.{at_gate_follows, leaves_as, or_only}
use Rattle.eco_journal.proofs.journal.Journal.shut_and_crop.Goals as goal

pub returns-in_err-shut-clause-crash : goal.returns-in_err-shut-clause-crash
returns-in_err-shut-clause-crash g c digest payloads last sound =
    let p = err_from_is_err_and c.from_residual.result c.from_residual.ensures.1 in
    let first = c.in_err-shut.ensures.crash digest payloads last sound in
    rw p.1 (record { any_moment = first.any_moment; sound = first.sound; mended = tt })

pub returns-then-follows-clause-crash : goal.returns-then-follows-clause-crash
returns-then-follows-clause-crash g c digest payloads last sound =
    let first = c.in_ok-shut.ensures.crash digest payloads last sound in
    let after = c.crop.ensures.crash digest payloads last first.sound in
    record { any_moment = leaves_as digest payloads last c.args.self.now.standing AtGate c.requires.at_gate (during_then (leaves_as digest payloads last AtGate c.args.self.now.standing (sym c.requires.at_gate) first.any_moment) (during_also (leaves_as digest payloads last Behind c.shut.new.self.standing (sym c.in_ok-shut.ensures.shut) after.any_moment) (or_only digest payloads last))); sound = after.sound; mended = after.mended }

pub returns-clause-crash : goal.returns-clause-crash
returns-clause-crash g c digest payloads last sound =
    let s = subst (λ v. IsSound digest payloads last (g.D.Disk.contents c.args.self.now.disk) (g.D.Disk.image c.args.self.now.disk (g.D.Disk.moment c.args.self.now.disk)) c.args.self.now.gate v) c.requires.at_gate sound.is in
    absurd (at_gate_follows s (c.requires.ends c.if-follows.false))

pub returns-in_err-shut-clause-calls : goal.returns-in_err-shut-clause-calls
returns-in_err-shut-clause-calls g c =
    let p = err_from_is_err_and c.from_residual.result c.from_residual.ensures.1 in
    rw p.1 (order_as (settle_split c.args.self.now.gate c.args.follows)
    (some_made p.0 (if c.args.follows then crop_calls c.args.self.now.gate else []) c.in_err-shut.ensures.calls))

pub returns-then-follows-clause-calls : goal.returns-then-follows-clause-calls
returns-then-follows-clause-calls g c =
    let crop = subst (λ n. MakesInOrder (g.D.Disk.calls c.shut.new.self.disk) (g.D.Disk.calls c.crop.new.self.disk) (crop_calls n) c.crop.result) c.shut.ensures.gate c.crop.ensures.calls in
    subst (λ f. MakesInOrder (g.D.Disk.calls c.args.self.now.disk) (g.D.Disk.calls c.crop.new.self.disk) (settle_calls AtGate c.args.self.now.gate f) c.crop.result) (sym c.if-follows.true)
    (order_then (all_made c.in_ok-shut.ensures.calls) crop)
