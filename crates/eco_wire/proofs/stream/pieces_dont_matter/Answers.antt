use Rattle.eco_wire.proofs.Streaming.{pieces_dont_matter}
use Rattle.eco_wire.proofs.stream.pieces_dont_matter.Goals as goal

pub returns : goal.returns
returns c = pieces_dont_matter
