-- Which entry stands unfinished in a journal's bytes.
use Rattle.std.specs.Prelude.{◌≢◌, ◌⊎◌, ℕ, List, [], ◌∷◌, ◌++◌}
use Rattle.eco_journal.specs.Layout.{Stores, magic, front}
use Rattle.eco_journal.specs.Meaning.{ListsEntries}

-- Where the gate that ends the entries of these bytes is neither closed nor open, P of the bytes with a 1 at that gate.
pub record OnceOpened (bytes : List ℕ) (P : List ℕ → Type 0) : Type 0 where
  pub opened : (payloads : List (List ℕ)) (gate : ℕ) (rest : List ℕ) → (l : ListsEntries bytes payloads (gate ∷ rest)) → gate ≢ 0 → gate ≢ 1
      → P (front (magic ++ l.digest) payloads ++ 1 ∷ rest)

-- no gate is so
abbrev pub NoneUnfinished : List ℕ → Type 0
NoneUnfinished bytes = OnceOpened bytes (λ opened. ⊥)

-- whole bytes with exactly these entries, and none unfinished
pub record StoresOnly (digest : List ℕ) (payloads : List (List ℕ)) (bytes : List ℕ) : Type 0 where
  pub stores : Stores digest payloads bytes
  pub none : NoneUnfinished bytes

-- These entries, or those and this one. No other may be unfinished: a 1 at its gate gives those and this one.
pub record StoresOr (digest : List ℕ) (payloads : List (List ℕ)) (payload bytes : List ℕ) : Type 0 where
  pub stores : Stores digest payloads bytes ⊎ Stores digest (payloads ++ payload ∷ []) bytes
  pub unfinished : OnceOpened bytes (Stores digest (payloads ++ payload ∷ []))
