use Rattle.eco_wire.proofs.Streaming.{links_read_streams}
use Rattle.eco_wire.proofs.stream.links_read_streams.Goals as goal

pub returns : goal.returns
returns c = links_read_streams
