use Rattle.std.proofs.Common.{ap, ap₂, ◌∙◌, sym, option_map}
use Rattle.std.specs.Option.{option_or}
use Rattle.std.proofs.lemmas.List.Folds.{find-append}
use Rattle.eco_func.specs.Expressions.{names, applied as apply}
use Rattle.eco_func.proofs.Expressions.{mapped_or}
use Rattle.eco_func.proofs.expression.joined.Goals as goal

pub returns : goal.returns
returns c = λ inputs l r left right. record {
  word = λ n h. c.applied.ensures n ∙ ap₂ (apply c.args.operator) (left.word n h) (right.word n h);
  unknown =
      ap (option_map (λ name. name.now)) c.first_of.ensures ∙ mapped_or (λ name. name.now) c.args.left.unknown c.args.right.unknown
      ∙ ap₂ option_or left.unknown right.unknown ∙ sym (find-append _ (names l) (names r));
}
