use Rattle.std.specs.Prelude.{ℕ, zero, suc, ◌+◌, ◌-◌, ◌*◌, ◌^◌, ◌≤◌, ◌≡◌, ◌≢◌, ◌==◌, if◌then◌else◌, List, length, slice_index, slice_index_or, ℤ, pos, negsuc}
use Rattle.eco_match.specs.declared.answer.MatchOut.{MatchOut}
use Rattle.eco_match.specs.declared.table.Table.{Table}

-- the words of the tree have the five of this place
abbrev pub HasPlace : List ℕ → ℕ → Type 0
HasPlace tree k = 5 * k + 5 ≤ length tree

-- when the place was reached, 0 while it wasn't
unfoldable pub rank_at : List ℕ → ℕ → ℕ
rank_at tree k = slice_index tree (5 * k)

-- how far the place is, a number of two words
unfoldable pub far_at : List ℕ → ℕ → ℕ
far_at tree k = slice_index tree (5 * k + 1) + 2 ^ 64 * slice_index tree (5 * k + 2)

-- the gate that leads to the place
unfoldable pub from_at : List ℕ → ℕ → ℕ
from_at tree k = slice_index tree (5 * k + 3)

-- the pair that leads to the place
unfoldable pub via_at : List ℕ → ℕ → ℕ
via_at tree k = slice_index tree (5 * k + 4)

-- a signed number as the search counts it: one below 0 lies past all that it may come to
abbrev pub natural : ℤ → ℕ
natural (pos n) = n
natural (negsuc n) = 2 ^ 128 - 1

-- what the gate at a place is worth
unfoldable pub worth_at : MatchOut → ℕ → ℕ
worth_at out zero = 0
worth_at out (suc g) = natural (slice_index_or out.worth g (pos 0))

-- the price of the spare of the gate at a place; a free spare has none
unfoldable pub price_at : MatchOut → ℕ → ℕ
price_at out zero = 0
price_at out (suc g) = natural (slice_index_or out.price g (pos 0))

-- where the spare stands among n places from one on, or the end of the list
abbrev pub find_place : List ℕ → ℕ → ℕ → ℕ → ℕ
find_place spares s from zero = length spares
find_place spares s from (suc n) = if slice_index spares (from + n) == s then from + n else find_place spares s from n

-- the pair of a gate and a spare, in the gate's row
abbrev pub place_in : Table → ℕ → ℕ → ℕ
place_in t k s = find_place t.spares.now s (slice_index t.starts.now k) (slice_index t.ends.now k - slice_index t.starts.now k)

-- the pair that the gate at a place has, by the spare that the answer gives it
unfoldable pub pair_at : Table → MatchOut → ℕ → ℕ
pair_at t out zero = 0
pair_at t out (suc g) = place_in t (suc g) (slice_index out.spare g)

-- the link of a place stays
pub record LinkStays (old new : List ℕ) (k : ℕ) : Type 0 where
  pub far : far_at new k ≡ far_at old k
  pub from : from_at new k ≡ from_at old k
  pub via : via_at new k ≡ via_at old k

-- the rank of one place is set
pub record SetsRank (place rank : ℕ) (old new : List ℕ) : Type 0 where
  pub here : rank_at new place ≡ rank
  pub others : (k : ℕ) → k ≢ place → rank_at new k ≡ rank_at old k
  pub links : (k : ℕ) → LinkStays old new k

-- the link of one place is set
pub record SetsLink (place far from via : ℕ) (old new : List ℕ) : Type 0 where
  pub far_is : far_at new place ≡ far
  pub from_is : from_at new place ≡ from
  pub via_is : via_at new place ≡ via
  pub others : (k : ℕ) → k ≢ place → LinkStays old new k
  pub ranks : (k : ℕ) → rank_at new k ≡ rank_at old k

-- the worth of the gate at one place is set
pub record SetsWorth (place worth : ℕ) (old new : MatchOut) : Type 0 where
  pub here : worth_at new place ≡ worth
  pub others : (k : ℕ) → k ≢ place → worth_at new k ≡ worth_at old k
  pub prices : (k : ℕ) → price_at new k ≡ price_at old k
  pub spares : new.spare ≡ old.spare

-- the price of the spare of the gate at one place is set
pub record SetsPrice (place price : ℕ) (old new : MatchOut) : Type 0 where
  pub here : price_at new place ≡ price
  pub others : (k : ℕ) → k ≢ place → price_at new k ≡ price_at old k
  pub worths : (k : ℕ) → worth_at new k ≡ worth_at old k
  pub spares : new.spare ≡ old.spare
