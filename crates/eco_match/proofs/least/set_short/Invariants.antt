use Rattle.std.proofs.Common.{ℕ, ◌<◌, ◌≡◌}
use Rattle.eco_match.specs.MatchOut.{out_short}
use Rattle.eco_match.specs.Solve.{short_gate}
use Rattle.eco_match.proofs.least.set_short.Given as goal

abbrev pub invariant-loop-gate : goal.invariant-loop-gate
invariant-loop-gate l = (k : ℕ) → k < l.gate → out_short l.out k ≡ short_gate l.tree k
