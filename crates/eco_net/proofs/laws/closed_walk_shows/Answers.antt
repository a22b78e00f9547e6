use Rattle.eco_net.proofs.Walks.{reported}
use Rattle.eco_net.proofs.laws.closed_walk_shows.Goals as goal

pub returns : goal.returns
returns c = reported
