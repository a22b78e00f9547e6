use Rattle.std.proofs.Common.{ℕ, ◌+◌, ◌≤◌, ◌<◌, ◌≡◌, ◌≢◌, List, length, slice_index}
use Rattle.eco_match.specs.declared.table.Table.{Table}
use Rattle.eco_match.specs.declared.answer.MatchOut.{MatchOut}
use Rattle.eco_match.specs.Table.{InRow, spare_at, cost_at}
use Rattle.eco_match.specs.Work.{rank_at, from_at, via_at, pair_at, worth_at, price_at}
use Rattle.eco_match.specs.Phase.{IsTight, AreBounded, holder_at, bound}

-- all that leads back from a gate still holds
pub record HoleLink (root : ℕ) (t : Table) (g : MatchOut) (tree : List ℕ) (k : ℕ) : Type 0 where
  pub from : 0 < from_at tree k
  pub from_root : from_at tree k ≤ root
  pub from_reached : 0 < rank_at tree (from_at tree k)
  pub earlier : rank_at tree (from_at tree k) < rank_at tree k
  pub row : InRow t (from_at tree k) (via_at tree k)
  pub spare : spare_at t (via_at tree k) ≡ spare_at t (pair_at t g k)
  pub worth : worth_at g (from_at tree k) ≡ cost_at t (via_at tree k) + price_at g k

-- the spare of the pair is nobody's, has that price, and the gate is to have it
pub record Hole (root : ℕ) (t : Table) (owner : List ℕ) (g : MatchOut) (tree : List ℕ) (gate pair price : ℕ) : Type 0 where
  pub hand : (k j : ℕ) → 0 < k → k ≤ root → InRow t k j → spare_at t j ≡ spare_at t pair → worth_at g k ≤ cost_at t j + price
  pub others : (k j : ℕ) → 0 < k → k ≤ root → InRow t k j → spare_at t j ≢ spare_at t pair → worth_at g k ≤ cost_at t j + price_at g (holder_at t owner j)
  pub tight : (k : ℕ) → 0 < k → k < root → IsTight t owner g k (pair_at t g k) k
  pub apart : (k : ℕ) → 0 < k → k < root → spare_at t (pair_at t g k) ≢ spare_at t pair
  pub gate_some : 0 < gate
  pub gate_root : gate ≤ root
  pub gate_reached : 0 < rank_at tree gate
  pub row : InRow t gate pair
  pub worth : worth_at g gate ≡ cost_at t pair + price
  pub holders : (s : ℕ) → s < length owner → s ≢ spare_at t pair → slice_index owner s < root
  pub owners : (s : ℕ) → s < length owner → s ≢ spare_at t pair → 0 < slice_index owner s → spare_at t (pair_at t g (slice_index owner s)) ≡ s
  pub links : (k : ℕ) → 0 < k → k < root → 0 < rank_at tree k → rank_at tree k ≤ rank_at tree gate → HoleLink root t g tree k
  pub free : price_at g 0 ≡ 0
  pub bounded : AreBounded root g
  pub small : price ≤ bound root
