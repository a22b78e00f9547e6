use Rattle.eco_match.proofs.Words.{sets-rank}
use Rattle.eco_match.proofs.work.set_rank.Goals as goal

pub returns : goal.returns
returns c = sets-rank c.args.tree.now c.args.place c.args.rank c.requires
