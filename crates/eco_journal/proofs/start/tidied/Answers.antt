use Rattle.eco_journal.proofs.start.tidied.Goals as goal

pub returns-in-Ok-clause-crash : goal.returns-in-Ok-clause-crash
returns-in-Ok-clause-crash g c digest payloads last sound =
    let mended = c.in-Ok.ensures.crash digest payloads last (record { is = sound }) in
    (mended.any_moment, mended.sound, mended.mended)

pub returns-in-Err-clause-crash : goal.returns-in-Err-clause-crash
returns-in-Err-clause-crash g c digest payloads last sound =
    let mended = c.in-Err.ensures.crash digest payloads last (record { is = sound }) in
    rw c.end.ensures.disk mended.any_moment
