-- Truth tables, and the rows of lists of bits.
use Rattle.std.specs.Prelude.{◌≡◌, ℕ, ◌+◌, ◌*◌, ◌/◌, ◌%◌, ◌^◌, ◌<◌, ◌≤◌, Bool, ◌==◌, cond, List, [], ◌∷◌, slice_index_or, false}
use Rattle.eco_common.specs.declared.limits.TheConstants.{MAX_INPUTS}

-- Bit r is the value at row r.
pub record TruthTable : Type 0 where
  pub inputs : ℕ
  pub bits : ℕ

-- At most six inputs, and no bit past the last row.
pub record IsTable (inputs bits : ℕ) : Type 0 where
  pub few : inputs ≤ MAX_INPUTS
  pub within : bits < 2 ^ (2 ^ inputs)

-- Bit i of a number.
abbrev pub bit : ℕ → ℕ → Bool
bit n i = n / 2 ^ i % 2 == 1

-- The value at a row.
abbrev pub at : TruthTable → ℕ → Bool
at t r = t.bits / 2 ^ r % 2 == 1

-- The row of a list of bits: the sum of 2 ^ i over the places i that hold 1.
abbrev pub row : List Bool → ℕ
row [] = 0
row (b ∷ bs) = cond b 1 0 + 2 * row bs

-- The value at the row of these bits.
abbrev pub look : TruthTable → List Bool → Bool
look t bits = at t (row bits)

-- Bit i of the row of a list of bits is bit i of the list.
abbrev pub RowsAreBits : Type 0
RowsAreBits = (bits : List Bool) (i : ℕ) → (row bits / 2 ^ i % 2 == 1) ≡ slice_index_or bits i false
