use Rattle.std.proofs.Common.{◌<◌, length, drop, sym, ◌∙◌, arith}
use Rattle.eco_disk.proofs.Told.{told_at, told_from}
use Rattle.eco_journal.specs.Layout.{entry_then, listed}
use Rattle.eco_journal.proofs.ReadSteps.{listed_next}
use Rattle.eco_journal.proofs.reading.next_step.Goals as goal

pub returns-clause-step : goal.returns-clause-step
returns-clause-step g c = told_from _ _ (λ bytes told.
    let long = told_at _ _ bytes told c.requires.length in
    let one = told_at _ _ bytes told c.in_ok-gate.ensures.byte in
    let kept = c.in_ok-gate.ensures.reads.contents ∙ told in
    let found = told_at _ _ bytes kept c.in_ok-entry.ensures.entry in
    let within : c.args.at < length bytes = omega (arith, long, c.requires.within) in
    let step = listed_next bytes c.args.at within (length c.in_ok-entry.entry) found.2 (sym c.if-gate-ne-OPEN.false ∙ one) found.0 in
    let next = c.in_ok-entry.ensures.next.0 in
    step ∙ (λ i. entry_then (sym found.1 i) (listed 0 (sym next i) (drop (sym next i) bytes))))
