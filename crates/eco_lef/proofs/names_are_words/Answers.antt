use Rattle.eco_lef.proofs.WordNames.{read_names}
use Rattle.eco_lef.proofs.names_are_words.Goals as goal

pub returns : goal.returns
returns c = read_names
