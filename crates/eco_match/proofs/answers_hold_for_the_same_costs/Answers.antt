use Rattle.eco_match.proofs.Same.{answer-same, exact-same}
use Rattle.eco_match.proofs.answers_hold_for_the_same_costs.Goals as goal

pub returns-clause-answer : goal.returns-clause-answer
returns-clause-answer c = λ gates spares a b out matching. answer-same gates spares a b out matching

pub returns-clause-exact : goal.returns-clause-exact
returns-clause-exact c = λ gates a b out matching. exact-same gates a b out matching
