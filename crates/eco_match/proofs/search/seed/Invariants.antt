use Rattle.std.proofs.Common.{ℕ, ◌<◌, ◌≡◌, ◌^◌}
use Rattle.eco_match.specs.Work.{rank_at, far_at}
use Rattle.eco_match.proofs.search.seed.Given as goal

abbrev pub invariant-loop-place : goal.invariant-loop-place
invariant-loop-place l = record {
  ranks : (k : ℕ) → k < l.place → rank_at l.tree k ≡ 0;
  far : (k : ℕ) → k < l.place → far_at l.tree k ≡ 2 ^ 127;
}
