use Rattle.eco_wire.proofs.Bounds.{unfinished_is_short}
use Rattle.eco_wire.proofs.stream.unfinished_is_short.Goals as goal

pub returns : goal.returns
returns c = unfinished_is_short
