-- Which sources of inputs are given back, in which order, and how far each was read.
use Rattle.std.specs.Prelude.{◌≡◌, ℕ, ◌+◌, ◌≤◌, ◌⊎◌, List, [], ◌∷◌, ◌++◌, length, Option, Result, Ok, Err}
use Rattle.std.specs.Io.KnownBytes.{IsAtEnd}
use Rattle.eco_cli.specs.Job.{Input, ready_after}
use Rattle.eco_cli.specs.Opens.{Ready, Told, IsFirst, Adds, without_first}
use Rattle.eco_cli.specs.Whole.{HasTaken}
use Rattle.eco_cli.specs.declared.failure.Failure.{Failure}
use Rattle.eco_cli.specs.declared.failure.Failure.TheVariants as failed

-- ---- one source

-- the source is the first that was ready under the name, and that many bytes of it were read
pub record IsReadFor {I : Type 0} (ready : Ready I) (left : I → Option (List ℕ)) (name : List ℕ) (n : ℕ) (source : I) : Type 0 where
  pub opened : I
  pub first : IsFirst name ready opened
  pub taken : HasTaken n (left opened) (left source)

-- the input's source, which was read to its end
abbrev pub IsReadWhole : {I : Type 0} → Ready I → (I → Option (List ℕ)) → Input → I → Type 0
IsReadWhole ready left i source = (n : ℕ) × (n ≤ i.limit) × IsReadFor ready left i.name n source × IsAtEnd (left source)

-- ---- the sources of inputs

-- the sources of these inputs, in order, each read to its end
abbrev pub AreReadWhole : {I : Type 0} → Ready I → (I → Option (List ℕ)) → List Input → List I → Type 0
AreReadWhole ready left [] [] = Unit {0}
AreReadWhole ready left (i ∷ is) (s ∷ ss) = IsReadWhole ready left i s × AreReadWhole (without_first i.name ready) left is ss
AreReadWhole ready left inputs sources = ⊥

-- The sources of all these inputs were given back in order, each read to its end, and no other.
pub record ReturnsAll {T I O : Type 0} (h : Told T I O) (left : I → Option (List ℕ)) (old new : T) (inputs : List Input) : Type 0 where
  pub sources : List I
  pub whole : AreReadWhole (h.sources old) left inputs sources
  pub back : Adds sources (h.sources_back old) (h.sources_back new)

-- Those of the inputs before one were given back in order, each read to its end, then that of this one after so many bytes of
-- it were read, and no other.
pub record ReturnsUpTo {T I O : Type 0} (h : Told T I O) (left : I → Option (List ℕ)) (old new : T) (before : List Input) (i : Input) (n : ℕ) : Type 0 where
  pub sources : List I
  pub last : I
  pub whole : AreReadWhole (h.sources old) left before sources
  pub read : IsReadFor (ready_after before (h.sources old)) left i.name n last
  pub back : Adds (sources ++ last ∷ []) (h.sources_back old) (h.sources_back new)

-- Those of some first inputs were given back in order. Each was read to its end, but for the last, perhaps, of which at most one
-- byte more than its limit was read.
abbrev pub ReturnsSome : {T I O : Type 0} → Told T I O → (I → Option (List ℕ)) → T → T → List Input → Type 0
ReturnsSome h left old new inputs = ((before : List Input) × (after : List Input) × (inputs ≡ before ++ after) × ReturnsAll h left old new before)
    ⊎ ((before : List Input) × (i : Input) × (after : List Input) × (n : ℕ) × (inputs ≡ before ++ i ∷ after) × (n ≤ i.limit + 1) × ReturnsUpTo h left old new before i n)

-- What is given back of these inputs, by how the work on them ends: nothing after a bad word; up to the input that is too long,
-- with one byte more than its limit read of it; some of them where an open or a read failed or memory ran out; and else all.
abbrev pub Returns : {T I O V : Type 0} → Told T I O → (I → Option (List ℕ)) → T → T → List Input → Result V Failure → Type 0
Returns h left old new inputs (Ok v) = ReturnsAll h left old new inputs
Returns h left old new inputs (Err (failed.Words n)) = h.sources_back new ≡ h.sources_back old
Returns h left old new inputs (Err (failed.TooLong option)) = (before : List Input) × (i : Input) × (after : List Input) × (inputs ≡ before ++ i ∷ after) × (option.now ≡ i.option)
    × ReturnsUpTo h left old new before i (i.limit + 1)
Returns h left old new inputs (Err (failed.Refused refusal)) = ReturnsAll h left old new inputs
Returns h left old new inputs (Err failed.Read) = ReturnsSome h left old new inputs
Returns h left old new inputs (Err failed.Write) = ReturnsAll h left old new inputs
Returns h left old new inputs (Err failed.Memory) = ReturnsSome h left old new inputs
