use Rattle.eco_wire.proofs.Streaming.{readings_stay}
use Rattle.eco_wire.proofs.stream.readings_stay.Goals as goal

pub returns : goal.returns
returns c = readings_stay
