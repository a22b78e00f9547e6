use Rattle.std.proofs.Common.{ℕ, zero, suc, ◌+◌, ◌≤◌, ◌<◌, ◌≡◌, ◌==◌, if◌then◌else◌, Option, IfSome}
use Rattle.eco_match.specs.declared.table.Table.{Table}
use Rattle.eco_match.specs.declared.answer.MatchOut.{MatchOut}
use Rattle.eco_match.specs.Least.{IsMatching}
use Rattle.eco_match.specs.Table.{spare_at}
use Rattle.eco_match.specs.Work.{pair_at, worth_at, price_at}

-- the price of the gate that has the spare, or 0 where none has
abbrev pub price_of : (ℕ → ℕ) → (ℕ → ℕ) → ℕ → ℕ → ℕ
price_of spare price zero s = 0
price_of spare price (suc n) s = if spare n == s then price n else price_of spare price n s

-- worths and prices that show that the mapping is least
pub record Shows (gates : ℕ) (costs : ℕ → ℕ → Option ℕ) (spare worth price : ℕ → ℕ) : Type 0 where
  pub mapping : IsMatching gates costs spare
  pub within : (g s : ℕ) → g < gates → IfSome (costs g s) (λ c. worth g ≤ c + price_of spare price gates s)
  pub chosen : (g : ℕ) → g < gates → IfSome (costs g (spare g)) (λ c. worth g ≡ c + price g)

-- the answer, by the gates of the caller
abbrev pub chosen_spare : Table → MatchOut → ℕ → ℕ
chosen_spare t g k = spare_at t (pair_at t g (k + 1))

abbrev pub chosen_worth : MatchOut → ℕ → ℕ
chosen_worth g k = worth_at g (k + 1)

abbrev pub chosen_price : MatchOut → ℕ → ℕ
chosen_price g k = price_at g (k + 1)
