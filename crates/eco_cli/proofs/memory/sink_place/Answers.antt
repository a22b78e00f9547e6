use Rattle.eco_cli.specs.Laid.{laid_sink}
use Rattle.eco_cli.proofs.Opening.{place_of}
use Rattle.eco_cli.proofs.memory.sink_place.Goals as goal

pub returns : goal.returns
returns c = place_of laid_sink c.args.name.now c.args.laid.now c.first_sink.result c.first_sink.ensures
