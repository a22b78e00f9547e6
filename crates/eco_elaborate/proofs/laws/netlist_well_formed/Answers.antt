use Rattle.eco_elaborate.proofs.Keeping as keeping
use Rattle.eco_elaborate.proofs.laws.netlist_well_formed.Goals as goal

pub returns : goal.returns
returns c = keeping.netlist_well_formed
