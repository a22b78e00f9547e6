use Rattle.eco_cli.proofs.plan.write_plan.Goals as goal

pub emit-requires-clause-made : goal.emit-requires-clause-made
emit-requires-clause-made g c =
    let can = rw c.in-Issued.is at c.requires in
    rw c.deref.ensures.value can.1

pub emit-requires-clause-reading : goal.emit-requires-clause-reading
emit-requires-clause-reading g c =
    let can = rw c.in-Issued.is at c.requires in
    rw c.deref.ensures.value can.0
