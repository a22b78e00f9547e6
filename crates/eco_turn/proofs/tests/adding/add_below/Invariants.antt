use Rattle.std.proofs.Common.{◌≡◌}
use Rattle.eco_turn.specs.Pass.{HasLeft, pass_number}
use Rattle.eco_turn.specs.Turn.{IsPassOf}
use Rattle.eco_turn.proofs.tests.adding.add_below.Given as goal

abbrev pub invariant-loop-number : goal.invariant-loop-number
invariant-loop-number g l = IsPassOf (λ n. n.label) l.turn l.pass × HasLeft l.pass × (pass_number l.pass ≡ pass_number l.fn.pass)
