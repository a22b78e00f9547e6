use Rattle.eco_wire.proofs.Streaming.{readings_are_one}
use Rattle.eco_wire.proofs.stream.readings_are_one.Goals as goal

pub returns : goal.returns
returns c = readings_are_one
