use Rattle.std.proofs.Common.{arith}
use Rattle.eco_match.proofs.Words.{sets-link}
use Rattle.eco_match.proofs.work.set_link.Goals as goal

pub returns : goal.returns
returns c = sets-link c.args.tree.now c.args.place _ _ c.args.from c.args.via c.args.far c.requires (omega arith)
