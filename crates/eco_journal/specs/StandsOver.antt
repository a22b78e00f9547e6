-- What a crash leaves over a run of calls. `Opens` says that bytes open to a book.
use Rattle.std.specs.Prelude.{◌≤◌, ◌⊎◌, ℕ, List, [], ◌∷◌, ◌++◌, Contains}

-- each image from one moment to another opens to the book, or to the book with one more call of those that were begun
abbrev pub Rests : {C : Type 0} → (List ℕ → List C → Type 0) → (ℕ → List ℕ → Type 0) → ℕ → ℕ → List C → List C → Type 0
Rests {C} Opens image from to book begun = (t : ℕ) (c : List ℕ) → from ≤ t → t ≤ to → image t c → Opens c book ⊎ ((call : C) × Contains begun call × Opens c (book ++ call ∷ []))

abbrev pub StandsOver : {C : Type 0} → (List ℕ → List C → Type 0) → (ℕ → List ℕ → Type 0) → ℕ → ℕ → List C → List C → List C → Type 0
StandsOver Opens image from to book [] begun = Rests Opens image from to book begun
StandsOver Opens image from to book (call ∷ calls) begun = (split : ℕ) × (from ≤ split) × (split ≤ to) × Rests Opens image from split book begun × StandsOver Opens image split to (book ++ call ∷ []) calls begun
