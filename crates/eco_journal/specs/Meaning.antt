-- What entries and bad records of bytes are, in the terms of the layout.
use Rattle.std.specs.Prelude.{◌≡◌, ◌≢◌, ◌↔◌, ◌+◌, ◌<◌, ℕ, List, [], ◌∷◌, ◌++◌, length, get_or, Some, IsTrue, IsFalse}
use Rattle.std.specs.Int.{to_be_bytes, w32}
use Rattle.std.specs.List.{flat_map}
use Rattle.eco_journal.specs.Layout.{ArePayloads, IsPayload, magic, front, entry, is_fresh, has_header, entries, bad_record}

abbrev pub AreBytes : List ℕ → Type 0
AreBytes bytes = (i : ℕ) → get_or bytes i 0 < 256

-- an open header of some digest, these entries, and then the rest
pub record ListsEntries (bytes : List ℕ) (payloads : List (List ℕ)) (rest : List ℕ) : Type 0 where
  pub digest : List ℕ
  pub size : length digest ≡ 32
  pub are_payloads : ArePayloads payloads
  pub is : bytes ≡ front (magic ++ digest) payloads ++ rest

-- Two readings of bytes as a header, entries and the rest are one.
pub record EndsAlike (head : List ℕ) (payloads : List (List ℕ)) (rest other_head : List ℕ) (others : List (List ℕ)) (other_rest : List ℕ) : Type 0 where
  pub same_head : other_head ≡ head
  pub same_payloads : others ≡ payloads
  pub same_rest : other_rest ≡ rest

-- no length, payload of that length and next gate stand there
abbrev pub NoEntry : List ℕ → Type 0
NoEntry bytes = (payload : List ℕ) (gate : ℕ) (rest : List ℕ) → IsPayload payload → bytes ≢ to_be_bytes w32 (length payload) ++ payload ++ gate ∷ rest

-- The entries of bytes: none where a fresh header is made, and else those up to the first gate that isn't open.
pub data HasEntries (bytes : List ℕ) : List (List ℕ) → Type 0 where
  fresh : IsTrue (is_fresh bytes) → HasEntries bytes []
  up_to : (payloads : List (List ℕ)) (gate : ℕ) (rest : List ℕ) → ListsEntries bytes payloads (gate ∷ rest) → gate ≢ 1 → HasEntries bytes payloads

-- A bad record: no header, or an open gate without a whole entry after it.
pub data HasBadRecord (bytes : List ℕ) : ℕ → Type 0 where
  no_header : IsFalse (is_fresh bytes) → IsFalse (has_header bytes) → HasBadRecord bytes 0
  no_entry : (payloads : List (List ℕ)) (rest : List ℕ) → ListsEntries bytes payloads (1 ∷ rest) → NoEntry rest → HasBadRecord bytes (41 + length (flat_map entry payloads))

-- the two functions on bytes say just this
pub record FollowsLayout (bytes : List ℕ) : Type 0 where
  pub of_entries : (payloads : List (List ℕ)) → (entries bytes ≡ Some payloads) ↔ HasEntries bytes payloads
  pub of_bad_record : (place : ℕ) → (bad_record bytes ≡ Some place) ↔ HasBadRecord bytes place
