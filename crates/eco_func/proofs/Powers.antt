-- Rows of tables as powers of two.
use Rattle.std.proofs.Common.{◌≡◌, ℕ, ◌*◌, ◌/◌, ◌%◌, ◌^◌, ◌<◌, ◌≤◌, ◌↔◌, arith, subst, sym, IsTrue, nat_eq}
use Rattle.std.proofs.Math.Nat.{pow-le-pow_right, div-eq_of_lt, div-lt_iff_lt-mul}
use Rattle.std.proofs.lemmas.Nat.{one_shl, pow_pos}
use Rattle.std.proofs.lemmas.Bool.Decides.{nat_tests}

-- at most six inputs have at most 64 rows
pub few_rows : (i : ℕ) → i ≤ 6 → 2 ^ i ≤ 64
few_rows i h = pow-le-pow_right {n = 2} (omega arith) {i = i} {j = 6} h

pub rows_shifted : (i : ℕ) → i ≤ 6 → 1 * 2 ^ i % 4294967296 ≡ 2 ^ i
rows_shifted i h = one_shl i 32 (omega arith)

-- no bit is left of k bits
pub none_above : (b k : ℕ) → b / 2 ^ k ≡ 0 → b < 2 ^ k
none_above b k h = let g : b / 2 ^ k < 1 = omega arith in omega (arith, (div-lt_iff_lt-mul {k = 2 ^ k} {x = b} {y = 1} (pow_pos k)).0 g)

pub all_rows : (i b : ℕ) → 2 ^ i ≡ 64 → b < 18446744073709551616 → b < 2 ^ (2 ^ i)
all_rows i b e h = let P : ℕ → Type 0 = λ k. b < 2 ^ k in subst P (sym e) h

pub tested : (i b : ℕ) → i ≤ 6 → (IsTrue (nat_eq (b / 2 ^ (1 * 2 ^ i % 4294967296)) 0)) ↔ (b < 2 ^ (2 ^ i))
tested i b h =
    rw (rows_shifted i h) (λ t. none_above b (2 ^ i) (grind (arith, nat_tests)), λ t. let z = div-eq_of_lt t in grind (arith, nat_tests))
