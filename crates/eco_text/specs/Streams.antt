-- What a read does to the bytes that a source has left.
use Rattle.std.specs.Prelude.{◌≡◌, ℕ, ◌<◌, ◌≤◌, List, length, take, Option, Result, MatchResult}
use Rattle.std.specs.Io.KnownBytes.{prepend_known, IsAtEnd}

-- Ok(n) took the first n bytes of the rest and put them at the front of the piece; a failed read took none.
-- A source that doesn't tell its rest doesn't tell it afterwards. Nothing comes for a piece with room only at the end.
abbrev pub Takes : {E : Type 0} → Option (List ℕ) → Option (List ℕ) → Result ℕ E → List ℕ → Type 0
Takes old new result piece =
    MatchResult result (λ n. (n ≤ length piece) × (old ≡ prepend_known (take n piece) new) × (n ≡ 0 → 0 < length piece → IsAtEnd new)) (λ _. new ≡ old)
