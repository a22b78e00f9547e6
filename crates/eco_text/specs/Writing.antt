-- What a call writes to a sink.
use Rattle.std.specs.Prelude.{◌≡◌, ℕ, take, List, Option, Result, MatchResult}
use Rattle.std.specs.Io.KnownBytes.{append_known}
use Rattle.std.specs.List.{flat_map}
use Rattle.std.specs.Borrow.{Bor}
use Rattle.eco_common.specs.Causes.{HasCause}

-- Some front of the piece was taken. A sink that doesn't tell its bytes doesn't tell them afterwards.
abbrev pub AppendsFront : Option (List ℕ) → Option (List ℕ) → List ℕ → Type 0
AppendsFront old new piece = (n : ℕ) × (new ≡ append_known old (take n piece))

-- the whole piece was taken at `Ok`, and a front of it at `Err`
abbrev pub WritesAll : {T E : Type 0} → Option (List ℕ) → Option (List ℕ) → Result T E → List ℕ → Type 0
WritesAll old new result piece = MatchResult result (λ _. new ≡ append_known old piece) (λ _. AppendsFront old new piece)

-- The call wrote these bytes, or a front of them and then failed by a fault of the sink.
pub record Writes {K T E : Type 0} (taken : K → Option (List ℕ)) (faults : K → ℕ) (old new : K) (result : Result T E) (bytes : List ℕ) : Type 0 where
  pub bytes_taken : WritesAll (taken old) (taken new) result bytes
  pub cause : HasCause (faults old) (faults new) result

-- what slices hold, one after another
abbrev pub joined : List (Bor (List ℕ)) → List ℕ
joined pieces = flat_map (λ piece. piece.now) pieces
