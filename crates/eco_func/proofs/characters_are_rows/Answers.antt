use Rattle.eco_func.proofs.RowLaws.{characters}
use Rattle.eco_func.proofs.characters_are_rows.Goals as goal

pub returns : goal.returns
returns c = characters
