use Rattle.eco_one_gate.proofs.Applying as applying
use Rattle.eco_one_gate.proofs.laws.one_gate_applies.Goals as goal

pub returns : goal.returns
returns c = applying.one_gate_applies
