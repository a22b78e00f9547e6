-- The parts of a header that was read as one piece.
use Rattle.std.proofs.Common.{◌≡◌, ◌<◌, ℕ, List, take, drop, get_or, length, slice_range, sym, ap, ◌∙◌, arith, true, false, ◌==◌, ◌&&◌}
use Rattle.std.specs.Str.{bytes_eq}
use Rattle.std.proofs.lemmas.List.{drop-take, take-take, get_or-take}
use Rattle.std.proofs.lemmas.Bool.{le-leb, both_ways}
use Rattle.std.proofs.lemmas.Slice.Eq.{bytes_eq-Decides}
use Rattle.eco_journal.specs.Layout.{has_header, magic}

module _ (bytes head : List ℕ) (long : 41 < length bytes) (is : head ≡ slice_range bytes 0 41) where
  pub head_gate : get_or head 0 0 ≡ get_or bytes 0 0
  head_gate = ap (λ (l : List ℕ). get_or l 0 0) is ∙ get_or-take 41 bytes 0 0 (omega arith)

  pub head_magic : slice_range head 1 9 ≡ take 8 (drop 1 bytes)
  head_magic = ap (λ (l : List ℕ). take 8 (drop 1 l)) is ∙ ap (λ (l : List ℕ). take 8 l) (drop-take 1 40 bytes) ∙ take-take 8 40 (drop 1 bytes) (omega arith)

  pub head_digest : slice_range head 9 41 ≡ take 32 (drop 9 bytes)
  head_digest = ap (λ (l : List ℕ). take 32 (drop 9 l)) is ∙ ap (λ (l : List ℕ). take 32 l) (drop-take 9 32 bytes) ∙ take-take 32 32 (drop 9 bytes) (omega arith)

  pub header_tests : has_header bytes ≡ ((get_or head 0 0 == 1) && bytes_eq (slice_range head 1 9) magic)
  header_tests = (λ i. le-leb 42 (length bytes) (omega (arith, long)) i && (sym head_gate i == 1) && bytes_eq (sym head_magic i) magic)

pub same_digests : (xs ys : List ℕ) → bytes_eq xs ys ≡ true → xs ≡ ys
same_digests xs ys is = (bytes_eq-Decides xs ys).0 is

pub other_digests : (xs ys : List ℕ) → bytes_eq xs ys ≡ false → xs ≡ ys → ⊥
other_digests xs ys is same = both_ways (bytes_eq xs ys) is ((bytes_eq-Decides xs ys).1 same)
