use Rattle.eco_base.proofs.Words.{in_words}
use Rattle.eco_base.proofs.stock_laws.stock_in_words.Goals as goal

pub returns : goal.returns
returns c = in_words
