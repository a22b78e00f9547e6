-- Tables by their values.
use Rattle.std.proofs.Common.{◌≡◌, ℕ, ◌^◌, ◌<◌, Bool, true, false, List, [], ◌∷◌, length, map, ap₂, ◌∙◌, sym, arith, subst}
use Rattle.std.specs.Int.{bit_at}
use Rattle.std.specs.List.{range_with_len}
use Rattle.std.proofs.Math.Nat.{pow-suc}
use Rattle.std.proofs.lemmas.List.FromFn.{length-map-range_with_len, get_or-map-range_with_len}
use Rattle.std.proofs.lemmas.Nat.Bits.{bit_at-lt, same_from_bits_below}
use Rattle.eco_func.specs.Tables.{TruthTable, IsTable, row, at, bit}
use Rattle.eco_func.proofs.RowBits.{same_bit}
use Rattle.eco_func.proofs.RowLaws.{bit_of_row}

-- a list's row has no bit past the list
pub row_fits : (bits : List Bool) → row bits < 2 ^ length bits
row_fits [] = omega arith
row_fits (true ∷ bits) = omega (arith, row_fits bits, pow-suc 2 (length bits))
row_fits (false ∷ bits) = omega (arith, row_fits bits, pow-suc 2 (length bits))

-- the row of a number's bits is the number
pub row_of_bits : (n b : ℕ) (v : ℕ → Bool) → b < 2 ^ n → ((r : ℕ) → r < n → bit b r ≡ v r) → b ≡ row (map v (range_with_len 0 n))
row_of_bits n b v fits same =
    let bits = map v (range_with_len 0 n) in
    same_from_bits_below n b (row bits) fits (subst (λ k. row bits < 2 ^ k) (length-map-range_with_len v 0 n) (row_fits bits))
    (λ r h. same_bit (bit_at b r) (bit_at (row bits) r) (bit_at-lt b r) (bit_at-lt (row bits) r)
    (same r h ∙ sym (get_or-map-range_with_len v 0 n r r false h (omega arith)) ∙ sym (bit_of_row bits r)))

-- a table with these values at its rows
pub table_is : (t : TruthTable) (m : ℕ) (v : ℕ → Bool) → t.inputs ≡ m → IsTable t.inputs t.bits → ((r : ℕ) → r < 2 ^ m → at t r ≡ v r) → t ≡ record { inputs = m; bits = row (map v (range_with_len 0 (2 ^ m))) }
table_is t m v count is same =
    let fits : t.bits < 2 ^ (2 ^ m) = subst (λ k. t.bits < 2 ^ (2 ^ k)) count is.within in
    let bits : t.bits ≡ row (map v (range_with_len 0 (2 ^ m))) = row_of_bits (2 ^ m) t.bits v fits same in
    ap₂ (λ i b. record { inputs = i; bits = b }) count bits
