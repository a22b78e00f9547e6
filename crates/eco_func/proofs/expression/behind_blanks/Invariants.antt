use Rattle.std.proofs.Common.{◌≡◌, ◌≤◌, length}
use Rattle.eco_func.specs.Expressions.{behind_blanks as without_blanks}
use Rattle.eco_func.proofs.expression.behind_blanks.Given as goal

abbrev pub invariant-loop-text : goal.invariant-loop-text
invariant-loop-text l = (without_blanks l.text ≡ without_blanks l.initial.text) × (length l.text ≤ length l.initial.text)

abbrev pub decreases-loop-text : goal.decreases-loop-text
decreases-loop-text l = length l.text
