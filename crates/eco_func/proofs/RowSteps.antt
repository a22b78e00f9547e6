-- A row, bit by bit.
use Rattle.std.proofs.Common.{◌≡◌, ℕ, ◌+◌, ◌*◌, ◌^◌, ◌<◌, Bool, true, false, cond, List, ◌∷◌, drop, arith, ap, ◌∙◌, add-one}
use Rattle.std.proofs.Math.Nat.{pow-suc}
use Rattle.eco_func.specs.Tables.{row}

-- the row so far, with that of the rest above it, is the row of the bits
pub record RowSoFar (bits : List Bool) (sofar place : ℕ) : Type 0 where
  pub value : row bits ≡ sofar + 2 ^ place * row (drop place bits)
  pub fits : sofar < 2 ^ place

doubled : (place : ℕ) → 2 ^ (place + 1) ≡ 2 ^ place * 2
doubled place = rw add-one (pow-suc 2 place)

pub one_more : (bits : List Bool) (sofar place : ℕ) (b : Bool) → drop place bits ≡ b ∷ drop (place + 1) bits → RowSoFar bits sofar place → RowSoFar bits (sofar + cond b (2 ^ place) 0) (place + 1)
one_more bits sofar place true e r = record {
  value =
      let left = row (drop (place + 1) bits) in
      let v : row bits ≡ sofar + 2 ^ place * (1 + 2 * left) = r.value ∙ ap (λ l. sofar + 2 ^ place * row l) e in
      omega (arith, v, ap (λ p. p * left) (doubled place));
  fits = omega (arith, r.fits, doubled place);
}
one_more bits sofar place false e r = record {
  value =
      let left = row (drop (place + 1) bits) in
      let v : row bits ≡ sofar + 2 ^ place * (0 + 2 * left) = r.value ∙ ap (λ l. sofar + 2 ^ place * row l) e in
      omega (arith, v, ap (λ p. p * left) (doubled place));
  fits = omega (arith, r.fits, doubled place);
}
