use Rattle.eco_text.proofs.Splicing.{splice}
use Rattle.eco_text.proofs.words_of_two_parts.Goals as goal

pub returns : goal.returns
returns c = splice
