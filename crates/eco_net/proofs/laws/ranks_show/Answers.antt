use Rattle.eco_net.proofs.Walks.{ranked_loop_free}
use Rattle.eco_net.proofs.laws.ranks_show.Goals as goal

pub returns : goal.returns
returns c = ranked_loop_free
