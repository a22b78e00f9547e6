use Rattle.std.proofs.Common.{◌≡◌}
use Rattle.eco_turn.specs.Pass.{HasLeft, pass_number}
use Rattle.eco_turn.specs.Turn.{IsPassOf}
use Rattle.turn_bench.proofs.turned.pass_through.Given as goal

abbrev pub invariant-pairs : goal.invariant-pairs
invariant-pairs g l = IsPassOf (λ _. tt) l.turn l.pass × HasLeft l.pass × (pass_number l.pass ≡ pass_number l.fn.pass)
