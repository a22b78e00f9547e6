use Rattle.eco_lef.proofs.Distinct.{names_differ}
use Rattle.eco_lef.proofs.names_stand_once.Goals as goal

pub returns : goal.returns
returns c = names_differ
