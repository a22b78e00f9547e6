use Rattle.std.proofs.Common.{ℕ, ◌≤◌, ◌<◌, ◌≡◌, List}
use Rattle.eco_match.specs.declared.answer.MatchOut.{MatchOut}
use Rattle.eco_match.specs.Work.{rank_at}
use Rattle.eco_match.specs.Phase.{KeepsAt, RisesAt}

-- the reached places between 0 and end are raised, and nothing else
pub record Raising (tree : List ℕ) (by end : ℕ) (old new : MatchOut) : Type 0 where
  pub spares : new.spare ≡ old.spare
  pub zero_stays : KeepsAt old new 0
  pub reached : (k : ℕ) → 0 < k → k < end → 0 < rank_at tree k → RisesAt by old new k
  pub others : (k : ℕ) → 0 < k → k < end → rank_at tree k ≡ 0 → KeepsAt old new k
  pub later : (k : ℕ) → end ≤ k → k < 129 → KeepsAt old new k
