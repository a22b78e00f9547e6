use Rattle.eco_wire.proofs.Bounds.{refusals_have_heads}
use Rattle.eco_wire.proofs.stream.refusals_have_heads.Goals as goal

pub returns : goal.returns
returns c = refusals_have_heads
