use Rattle.std.proofs.Common.{◌∙◌, sym, not, arith}
use Rattle.eco_func.specs.Expressions.{goes_on as may_follow}
use Rattle.eco_func.proofs.Places.{place_is, no_place}
use Rattle.eco_func.proofs.expression.name_len.Goals as goal

pub returns-in-Some-clause-value : goal.returns-in-Some-clause-value
returns-in-Some-clause-value c = (place_is (λ b. not (may_follow b)) c.args.text.now c.in-Some.place (sym c.name_end.ensures ∙ c.in-Some.is)).0

pub returns-in-Some-clause-within : goal.returns-in-Some-clause-within
returns-in-Some-clause-within c = omega (arith, (place_is (λ b. not (may_follow b)) c.args.text.now c.in-Some.place (sym c.name_end.ensures ∙ c.in-Some.is)).1)

pub returns-in-None-clause-value : goal.returns-in-None-clause-value
returns-in-None-clause-value c = no_place (λ b. not (may_follow b)) c.args.text.now (sym c.name_end.ensures ∙ c.in-None.is)
