use Rattle.eco_one_gate.proofs.apply_gate.apply_one.Goals as goal

pub returns-clause-applies : goal.returns-clause-applies
returns-clause-applies c =
    let ready = c.in_ok-master.ensures in
    (ready.gate.spare, ready.good, ready.embedded, c.in_ok-gate_overlay.ensures.applied ready)
