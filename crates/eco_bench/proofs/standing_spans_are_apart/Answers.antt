use Rattle.eco_bench.proofs.Apart.{stand-apart}
use Rattle.eco_bench.proofs.standing_spans_are_apart.Goals as goal

pub returns : goal.returns
returns c = stand-apart
