use Rattle.eco_elaborate.proofs.ReadOnce as reading
use Rattle.eco_elaborate.proofs.laws.read_once.Goals as goal

pub returns : goal.returns
returns c = reading.read_once
