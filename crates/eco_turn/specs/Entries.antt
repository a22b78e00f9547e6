-- Lists of entries, each with the number of the pass that made it.
use Rattle.std.specs.Prelude.{◌≡◌, ℕ, ◌<◌, ◌≤◌, ◌==◌, List, length, drop, filter, All}
use mathlib.Core.List.{IsPrefix}

-- it is the number of a pass, where `most` passes are numbered from 1
abbrev pub IsPass : ℕ → ℕ → Type 0
IsPass most n = (0 < n) × (n ≤ most)

module _ {E : Type 0} where
  -- the entries that the pass n made, in their order
  abbrev pub entries_by : ℕ → List (ℕ × E) → List (ℕ × E)
  entries_by n list = filter (λ (e : ℕ × E). e.0 == n) list

  -- the second list is the first, with entries of the pass n added at its end
  abbrev pub Adds : ℕ → List (ℕ × E) → List (ℕ × E) → Type 0
  Adds n old new = IsPrefix old new × All (λ (e : ℕ × E). e.0 ≡ n) (drop (length old) new)

  -- the second list is the first, with entries of the passes 1 to `most` added at its end
  abbrev pub Grows : ℕ → List (ℕ × E) → List (ℕ × E) → Type 0
  Grows most old new = IsPrefix old new × All (λ (e : ℕ × E). IsPass most e.0) (drop (length old) new)
