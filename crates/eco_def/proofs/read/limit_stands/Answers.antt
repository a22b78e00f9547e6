use Rattle.eco_def.proofs.LimitPlaces.{limit_places}
use Rattle.eco_def.proofs.read.limit_stands.Goals as goal

pub returns : goal.returns
returns c = limit_places
