use Rattle.eco_elaborate.proofs.Unchanged as unchanged
use Rattle.eco_elaborate.proofs.laws.nothing_moves.Goals as goal

pub returns : goal.returns
returns c = unchanged.nothing_moves
