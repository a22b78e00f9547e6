use Rattle.std.proofs.Common.{subst}
use Rattle.std.proofs.lemmas.Result.{err_from_is_err_and}
use Rattle.eco_journal.specs.Sound.{IsSound}
use Rattle.eco_journal.specs.declared.standing.Standing.TheVariants.{AtGate}
use Rattle.eco_journal.proofs.Soundness.{long_torn, behind_stores, struck, shut, leaves_as}
use Rattle.eco_journal.proofs.journal.Journal.shut.Goals as goal

pub invariant_of-self : goal.invariant_of-self
invariant_of-self g c =
    record { room = c.args.self.now.room; lies = long_torn _ _ _ _ _ c.write_kept.ensures.contents c.args.self.now.lies }

pub returns-in_err-write_kept-clause-crash : goal.returns-in_err-write_kept-clause-crash
returns-in_err-write_kept-clause-crash g c digest payloads last sound =
    let p = err_from_is_err_and c.from_residual.result c.from_residual.ensures.1 in
    let s = subst (λ v. IsSound digest payloads last (g.D.Disk.contents c.args.self.now.disk) (g.D.Disk.image c.args.self.now.disk (g.D.Disk.moment c.args.self.now.disk)) c.args.self.now.gate v) c.requires sound.is in
    let first = struck s c.write_kept.ensures.contents c.write_kept.ensures.crash in
    rw (p.1, c.requires) (record { any_moment = first.0; sound = record { is = first.1 }; mended = tt })

pub invariant_of-self-2 : goal.invariant_of-self-2
invariant_of-self-2 g c =
    record { room = c.args.self.now.room; lies = long_torn _ _ _ _ _ c.write_kept.ensures.contents c.args.self.now.lies }

pub returns-clause-crash : goal.returns-clause-crash
returns-clause-crash g c digest payloads last sound =
    let s = subst (λ v. IsSound digest payloads last (g.D.Disk.contents c.args.self.now.disk) (g.D.Disk.image c.args.self.now.disk (g.D.Disk.moment c.args.self.now.disk)) c.args.self.now.gate v) c.requires sound.is in
    let first = struck s c.write_kept.ensures.contents c.write_kept.ensures.crash in
    let done = shut s c.in_ok-write_kept.ensures.written c.in_ok-write_kept.ensures.kept in
    record { any_moment = leaves_as digest payloads last c.args.self.now.standing AtGate c.requires first.0; sound = record { is = done }; mended = behind_stores done }
