-- Bits of words.
use Rattle.std.proofs.Common.{◌≡◌, ℕ, zero, suc, ◌+◌, ◌-◌, ◌/◌, ◌%◌, ◌^◌, ◌<◌, ◌≤◌, ◌==◌, min, cond, ◌↔◌, refl, ap, ◌∙◌, sym, arith, bit_and, bit_xor}
use Rattle.std.specs.Int.{bit_at}
use Rattle.std.proofs.lemmas.Nat.{and_mask, shr_split}
use Rattle.std.proofs.lemmas.Nat.Bits.{bit_at_and, bit_at_xor, bit_at-lt, bit_at_cat_low, same_from_bits_below, ones_shr}
use Rattle.eco_func.specs.Tables.{bit}

-- a bit is 0 or 1
pub two : (P : ℕ → Type 0) → P 0 → P 1 → (x : ℕ) → x < 2 → P x
two P a b zero h = a
two P a b (suc zero) h = b
two P a b (suc (suc x)) h = absurd (omega arith)

-- bits that test alike are equal
pub same_bit : (x y : ℕ) → x < 2 → y < 2 → (x == 1) ≡ (y == 1) → x ≡ y
same_bit zero zero h k e = refl
same_bit zero (suc zero) h k e = absurd (cc)
same_bit (suc zero) zero h k e = absurd (cc)
same_bit (suc zero) (suc zero) h k e = refl
same_bit (suc (suc x)) y h k e = absurd (omega arith)
same_bit zero (suc (suc y)) h k e = absurd (omega arith)
same_bit (suc zero) (suc (suc y)) h k e = absurd (omega arith)

-- ---- a choice by a column

abbrev Mixes : ℕ → ℕ → ℕ → Type 0
Mixes z c o = ((z + min c ((z + o) % 2)) % 2 == 1) ≡ cond (c == 1) (o == 1) (z == 1)

mixes : (z c o : ℕ) → z < 2 → c < 2 → o < 2 → Mixes z c o
mixes z c o hz hc ho =
    two (λ z. Mixes z c o)
    (two (λ c. Mixes 0 c o) (two (λ o. Mixes 0 0 o) refl refl o ho) (two (λ o. Mixes 0 1 o) refl refl o ho) c hc)
    (two (λ c. Mixes 1 c o) (two (λ o. Mixes 1 0 o) refl refl o ho) (two (λ o. Mixes 1 1 o) refl refl o ho) c hc)
    z hz

pub mixed : (z c o r : ℕ) → bit (bit_xor z (bit_and c (bit_xor z o))) r ≡ cond (bit c r) (bit o r) (bit z r)
mixed z c o r =
    ap (λ x. x == 1) (bit_at_xor z (bit_and c (bit_xor z o)) r ∙ ap (λ x. (bit_at z r + x) % 2) (bit_at_and c (bit_xor z o) r ∙ ap (λ x. min (bit_at c r) x) (bit_at_xor z o r)))
    ∙ mixes (bit_at z r) (bit_at c r) (bit_at o r) (bit_at-lt z r) (bit_at-lt c r) (bit_at-lt o r)

-- ---- the low bits

pub low_bit : (w k r : ℕ) → r < k → bit_at (w % 2 ^ k) r ≡ bit_at w r
low_bit w k r h = sym (bit_at_cat_low (w / 2 ^ k) k (w % 2 ^ k) r h) ∙ ap (λ n. bit_at n r) (shr_split w k)

-- a word's low bits are a number's bits
pub agree : (w b k : ℕ) → b < 2 ^ k → (w % 2 ^ k ≡ b) ↔ ((r : ℕ) → r < k → bit w r ≡ bit b r)
agree w b k fits = (
  λ e r h. ap (λ x. x == 1) (sym (low_bit w k r h) ∙ ap (λ n. bit_at n r) e),
  λ same. same_from_bits_below k (w % 2 ^ k) b (omega arith) fits (λ r h. low_bit w k r h ∙ same_bit (bit_at w r) (bit_at b r) (bit_at-lt w r) (bit_at-lt b r) (same r h)),
)

-- all ones, but for the rows past the last
pub masked : (w rows : ℕ) → 0 < rows → rows ≤ 64 → bit_and w (18446744073709551615 / 2 ^ (64 - rows)) ≡ w % 2 ^ rows
masked w rows some most =
    let back : 64 - (64 - rows) ≡ rows = omega arith in
    ap (bit_and w) (ones_shr 64 (64 - rows) (omega arith) ∙ ap (λ k. 2 ^ k - 1) back) ∙ and_mask w rows
