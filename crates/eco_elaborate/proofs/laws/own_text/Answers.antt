use Rattle.eco_elaborate.proofs.OwnText.{own_text as law}
use Rattle.eco_elaborate.proofs.laws.own_text.Goals as goal

pub returns : goal.returns
returns c = law
