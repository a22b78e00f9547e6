use Rattle.eco_elaborate.proofs.Telling as telling
use Rattle.eco_elaborate.proofs.laws.netlist_is.Goals as goal

pub returns : goal.returns
returns c = telling.netlist_is
