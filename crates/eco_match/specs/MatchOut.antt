use Rattle.std.specs.Prelude.{ℕ, ◌≡◌, Bool, false, Option, slice_index, slice_index_or, ℤ, pos}
use Rattle.eco_match.specs.Least.{Certifies, IsShort, IsLeastMatching, HasNone}
use Rattle.eco_match.specs.declared.answer.MatchOut.{MatchOut}
use Rattle.eco_match.specs.declared.answer.Matching.{Matching}
use Rattle.eco_match.specs.declared.answer.Matching.TheVariants.{Matched, Short}

-- what the answer has of a gate: its spare, its worth, the price of its spare, and whether it is in the set
abbrev pub out_spare : MatchOut → ℕ → ℕ
out_spare out g = slice_index out.spare g

abbrev pub out_worth : MatchOut → ℕ → ℤ
out_worth out g = slice_index_or out.worth g (pos 0)

abbrev pub out_price : MatchOut → ℕ → ℤ
out_price out g = slice_index_or out.price g (pos 0)

abbrev pub out_short : MatchOut → ℕ → Bool
out_short out g = slice_index_or out.short g false

-- the answer holds what shows it: worths and prices, or a short set
abbrev pub IsAnswer : ℕ → ℕ → (ℕ → ℕ → Option ℕ) → MatchOut → Matching → Type 0
IsAnswer gates spares costs out Matched = Certifies gates costs (out_spare out) (out_worth out) (out_price out)
IsAnswer gates spares costs out Short = IsShort gates spares costs (out_short out)

-- and it is right: Matched with a least mapping, Short only where there is no mapping
abbrev pub IsExact : ℕ → (ℕ → ℕ → Option ℕ) → MatchOut → Matching → Type 0
IsExact gates costs out Matched = IsLeastMatching gates costs (out_spare out)
IsExact gates costs out Short = HasNone gates costs

-- no gate has a spare, a worth or a price, and none is in the set
pub record IsBlank (out : MatchOut) : Type 0 where
  pub spare : (g : ℕ) → out_spare out g ≡ 0
  pub worth : (g : ℕ) → out_worth out g ≡ pos 0
  pub price : (g : ℕ) → out_price out g ≡ pos 0
  pub short : (g : ℕ) → out_short out g ≡ false
