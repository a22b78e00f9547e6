use Rattle.std.proofs.Common.{arith}
use Rattle.eco_match.specs.Work.{far_at}
use Rattle.eco_match.proofs.work.far_of.Goals as goal

pub returns : goal.returns
unfolding far_at
returns c = omega (arith, c.from.ensures, c.from-2.ensures)
