use Rattle.std.proofs.Common.{subst}
use Rattle.eco_disk.proofs.Moments.{during_none}
use Rattle.eco_journal.specs.Sound.{IsSound}
use Rattle.eco_journal.specs.declared.standing.Standing.TheVariants.{Settled}
use Rattle.eco_journal.proofs.Soundness.{settled_stores, leaves_as}
use Rattle.eco_journal.proofs.journal.Journal.settle.Goals as goal

pub returns-in-Settled-clause-crash : goal.returns-in-Settled-clause-crash
returns-in-Settled-clause-crash g c digest payloads last sound =
    let s = subst (λ v. IsSound digest payloads last (g.D.Disk.contents c.args.self.now.disk) (g.D.Disk.image c.args.self.now.disk (g.D.Disk.moment c.args.self.now.disk)) c.args.self.now.gate v) c.in-Settled.is sound.is in
    record { any_moment = leaves_as digest payloads last c.args.self.now.standing Settled c.in-Settled.is (during_none (settled_stores s)); sound = sound; mended = settled_stores s }
