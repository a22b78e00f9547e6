use Rattle.std.proofs.Common.{sym, ◌∙◌}
use Rattle.eco_text.proofs.Microns.{microns_are}
use Rattle.eco_text.proofs.numbers.millionths.Goals as goal

pub returns : goal.returns
returns c =
    c.read_millionths-2.ensures
    ∙ rw c.six_decimals.ensures
    (microns_are c.args.word.now c.whole_len-point.result c.in_ok-whole.whole c.part-decimals.result.now c.whole_len-point.ensures.first c.part-decimals.ensures
    (sym c.has_digit.ensures ∙ c.if-not-has_digit.false) (sym c.are_digits.ensures ∙ c.if-not-are_digits.false) (rw c.part.ensures at (sym c.read_millionths.ensures) ∙ c.in_ok-whole.was))
