use Rattle.std.proofs.Common.{subst}
use Rattle.eco_disk.proofs.Moments.{during_none}
use Rattle.eco_journal.specs.Start.{IsBeginning}
use Rattle.eco_journal.specs.declared.header.Beginning.TheVariants.{Fresh}
use Rattle.eco_journal.proofs.Fresh.{still_unopened, unopened_stores, closed_fresh}
use Rattle.eco_journal.proofs.header.clear.Goals as goal

pub returns-then-shut-clause-crash : goal.returns-then-shut-clause-crash
returns-then-shut-clause-crash g c digest bytes whole begins has =
    let kept = still_unopened bytes (subst (λ s. IsBeginning bytes (Fresh s)) c.if-shut.true begins) has in
    (during_none (λ x now. unopened_stores digest x (kept.each x now)), kept)

pub returns-clause-crash : goal.returns-clause-crash
returns-clause-crash g c digest bytes whole begins has =
    closed_fresh _ c.write_kept.result bytes whole (subst (λ s. IsBeginning bytes (Fresh s)) c.if-shut.false begins) has c.write_kept.ensures.crash c.write_kept.ensures.written c.write_kept.ensures.kept
