use Rattle.eco_cli.proofs.plan.told.Goals as goal

pub emit_len-requires-clause-made : goal.emit_len-requires-clause-made
emit_len-requires-clause-made c =
    let can = rw c.in-Issued.is at c.requires in
    rw c.deref.ensures.value can.1

pub emit_len-requires-clause-reading : goal.emit_len-requires-clause-reading
emit_len-requires-clause-reading c =
    let can = rw c.in-Issued.is at c.requires in
    rw c.deref.ensures.value can.0
