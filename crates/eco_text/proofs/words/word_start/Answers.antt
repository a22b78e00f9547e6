use Rattle.std.proofs.Common.{arith, sym, ◌∙◌}
use Rattle.std.proofs.lemmas.List.{take_rest}
use Rattle.eco_text.proofs.WalkSteps.{walk_comment}
use Rattle.eco_text.proofs.words.word_start.Goals as goal

pub loop-at-preserved-in-35 : goal.loop-at-preserved-in-35
loop-at-preserved-in-35 c =
    (omega arith, sym (walk_comment c.args.text.now c.loop-at.at c.line_len.result c.loop-at-test.true c.in-35.is (rw take_rest at c.line_len.ensures.first)) ∙ c.loop-at.invariant.1)
