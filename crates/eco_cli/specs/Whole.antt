-- What was read of a source.
use Rattle.std.specs.Prelude.{◌≡◌, ℕ, ◌+◌, ◌<◌, ◌≤◌, List, length, Option, Some, Result, Ok, Err}
use Rattle.std.specs.Io.KnownBytes.{prepend_known, IsAtEnd}
use Rattle.eco_common.specs.Causes.{Rose}
use Rattle.eco_cli.specs.declared.input.InputFault.{InputFault}
use Rattle.eco_cli.specs.declared.input.InputFault.TheVariants.{TooLong, Read, Memory}

-- the bytes are all that was left, where it is told
abbrev pub IsWhole : Option (List ℕ) → List ℕ → Type 0
IsWhole left bytes = (text : List ℕ) → left ≡ Some text → bytes ≡ text

-- more than that was left, where it is told
abbrev pub IsLonger : ℕ → Option (List ℕ) → Type 0
IsLonger limit left = (text : List ℕ) → left ≡ Some text → limit < length text

-- How the reading of a source with at most that many bytes ends, by what was left of it and by its faults.
abbrev pub ReadsAll : {V : Type 0} → ℕ → Option (List ℕ) → ℕ → ℕ → (V → List ℕ) → Result V InputFault → Type 0
ReadsAll limit left before now bytes (Ok v) = IsWhole left (bytes v) × (length (bytes v) ≤ limit)
ReadsAll limit left before now bytes (Err TooLong) = IsLonger limit left
ReadsAll limit left before now bytes (Err Read) = Rose before now
ReadsAll limit left before now bytes (Err Memory) = Unit {0}

-- that many bytes were taken from the front of what was left
abbrev pub HasTaken : ℕ → Option (List ℕ) → Option (List ℕ) → Type 0
HasTaken n old new = (bytes : List ℕ) × (length bytes ≡ n) × (old ≡ prepend_known bytes new)

-- How far a source with at most that many bytes is read: to its end; of a longer one, one byte more than the limit;
-- and no further than that where reading fails or memory runs out.
abbrev pub ReadsTo : {V : Type 0} → ℕ → Option (List ℕ) → Option (List ℕ) → Result V InputFault → Type 0
ReadsTo limit old new (Ok v) = (n : ℕ) × (n ≤ limit) × HasTaken n old new × IsAtEnd new
ReadsTo limit old new (Err TooLong) = HasTaken (limit + 1) old new
ReadsTo limit old new (Err Read) = (n : ℕ) × (n ≤ limit + 1) × HasTaken n old new
ReadsTo limit old new (Err Memory) = (n : ℕ) × (n ≤ limit + 1) × HasTaken n old new
