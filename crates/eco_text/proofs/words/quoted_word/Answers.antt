use Rattle.std.proofs.Common.{sym}
use Rattle.std.proofs.lemmas.List.{take_rest}
use Rattle.eco_text.proofs.WalkSteps.{walk_quoted, walk_open}
use Rattle.eco_text.proofs.words.quoted_word.Goals as goal

pub returns-in-Some-clause-found : goal.returns-in-Some-clause-found
returns-in-Some-clause-found c =
    walk_quoted c.args.text.now c.args.start c.in-Some.len c.requires.within c.requires.quote (sym (rw take_rest at c.in-Some.ensures.first))

pub returns-in-None-clause-open : goal.returns-in-None-clause-open
returns-in-None-clause-open c is = walk_open c.args.text.now c.args.start c.requires.within c.requires.quote (sym (rw take_rest at c.in-None.ensures.first))
