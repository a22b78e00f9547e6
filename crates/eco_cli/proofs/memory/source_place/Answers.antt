use Rattle.eco_cli.specs.Laid.{laid_source}
use Rattle.eco_cli.proofs.Opening.{place_of}
use Rattle.eco_cli.proofs.memory.source_place.Goals as goal

pub returns : goal.returns
returns c = place_of laid_source c.args.name.now c.args.laid.now c.first_source.result c.first_source.ensures
