use Rattle.std.specs.Prelude.{ℕ, ◌+◌, ◌<◌, ◌≡◌, Option, Some, None, ℤ, pos, ◌-ℤ◌, ◌≤ℤ◌, ◌≢◌}
use Rattle.eco_match.specs.Least.{signed_price_of}
use Rattle.eco_match.specs.MatchOut.{out_spare, out_worth, out_price}
use Rattle.eco_match.specs.Table.{InRow, spare_at, cost_at}
use Rattle.eco_match.specs.declared.table.Table.{Table}
use Rattle.eco_match.specs.declared.answer.MatchOut.{MatchOut}

-- the worth and the price of a chosen pair, whose cost is o
abbrev pub IsChosen : Option ℕ → ℤ → ℤ → Type 0
IsChosen None worth price = ⊥
IsChosen (Some c) worth price = (pos 0 ≤ℤ price) × ((worth -ℤ price) ≡ pos c)

-- the chosen pair of a gate
abbrev pub chosen_at : (ℕ → ℕ → Option ℕ) → MatchOut → ℕ → Type 0
chosen_at costs out g = IsChosen (costs g (out_spare out g)) (out_worth out g) (out_price out g)

-- the worth of the gate less the price of the spare of the pair at j is at most its cost
abbrev pub KeepsRule : Table → MatchOut → ℕ → ℕ → ℕ → Type 0
KeepsRule t out gates g j = (out_worth out g -ℤ signed_price_of (out_spare out) (out_price out) gates (spare_at t j)) ≤ℤ pos (cost_at t j)

-- no price is below 0
abbrev pub NoneNegative : MatchOut → ℕ → Type 0
NoneNegative out gates = (g : ℕ) → g < gates → pos 0 ≤ℤ out_price out g

-- each gate has a candidate, at its cost
abbrev pub AreChosen : ℕ → (ℕ → ℕ → Option ℕ) → MatchOut → Type 0
AreChosen gates costs out = (g : ℕ) → g < gates → chosen_at costs out g

-- no gate before this one has its spare
abbrev pub DiffersFromEarlier : MatchOut → ℕ → Type 0
DiffersFromEarlier out g = (h : ℕ) → h < g → out_spare out h ≢ out_spare out g

-- no two gates have one spare
abbrev pub AllDiffer : MatchOut → ℕ → Type 0
AllDiffer out gates = (g : ℕ) → g < gates → DiffersFromEarlier out g

-- all pairs of a gate, and of all gates, keep the rule
abbrev pub RowKeeps : Table → MatchOut → ℕ → ℕ → Type 0
RowKeeps t out gates g = (j : ℕ) → InRow t (g + 1) j → KeepsRule t out gates g j

abbrev pub AllKeep : Table → MatchOut → ℕ → Type 0
AllKeep t out gates = (g : ℕ) → g < gates → RowKeeps t out gates g
