use Rattle.eco_elaborate.proofs.Centred as centred
use Rattle.eco_elaborate.proofs.laws.places_are_centres.Goals as goal

pub returns : goal.returns
returns c = centred.places_are_centres
