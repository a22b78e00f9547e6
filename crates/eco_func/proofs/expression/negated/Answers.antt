use Rattle.std.proofs.Common.{ap, not, ◌∙◌}
use Rattle.eco_func.proofs.expression.negated.Goals as goal

pub returns : goal.returns
returns c = λ inputs e is. record {
  word = λ r h. c.turned.ensures r h ∙ ap not (is.word r h);
  unknown = is.unknown;
}
