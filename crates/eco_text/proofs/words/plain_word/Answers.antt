use Rattle.std.proofs.lemmas.List.{take_rest}
use Rattle.eco_text.proofs.WalkSteps.{walk_plain}
use Rattle.eco_text.proofs.words.plain_word.Goals as goal

pub returns-clause-found : goal.returns-clause-found
returns-clause-found c =
    walk_plain c.args.text.now c.args.start c.plain_len.result c.requires.within c.requires.begins c.requires.plain (rw take_rest at c.plain_len.ensures.first)
