-- The digest of a base's texts, of this project's own form.
use Rattle.std.specs.Prelude.{ℕ, ◌+◌, ◌/◌, ◌%◌, List, ◌++◌, length, take}
use Rattle.std.specs.Int.{w64, to_be_bytes}
use Rattle.sha2.specs.declared.Sha256.{Sha256}
use Rattle.sha2.specs.Sha256.{sha256, padding, hash_after, digest_bytes}
use Rattle.sha2.specs.Hashers.{Holds256}

-- a text after its length in eight bytes, greatest first, so that no byte can go from one text to the next
abbrev pub framed : List ℕ → List ℕ
framed text = to_be_bytes w64 (length text) ++ text

-- SHA-256 (FIPS 180-4) over the four texts
abbrev pub digest_of : (lef def functions desk : List ℕ) → List ℕ
digest_of lef def functions desk = sha256 (framed lef ++ framed def ++ framed functions ++ framed desk)

-- ---- going on from a hasher

-- the bytes that a hasher has not taken in yet, which fill no block of 64, then more bytes, and the padding of all
abbrev pub last_blocks : Sha256 → List ℕ → List ℕ
last_blocks s more = take (s.core.total % 64) s.core.buffer ++ (more ++ padding (s.core.total + length more))

-- The digest of what a hasher holds followed by more bytes: its hash value goes on over the blocks that are left.
unfoldable pub digest_after : Sha256 → List ℕ → List ℕ
digest_after s more = digest_bytes (hash_after s.core.h (last_blocks s more) (length (last_blocks s more) / 64)) 8

-- the hasher holds one text, after its length
abbrev pub HoldsText : Sha256 → Type 0
HoldsText s = (text : List ℕ) × Holds256 s (framed text)
