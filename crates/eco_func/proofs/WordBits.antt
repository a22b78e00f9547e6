-- Bits of words that operators join.
use Rattle.std.proofs.Common.{◌≡◌, ℕ, ◌+◌, ◌-◌, ◌%◌, ◌<◌, ◌==◌, ◌&&◌, ◌||◌, not, min, max, refl, ap, ◌∙◌, bit_and, bit_or, bit_xor, w64}
use Rattle.std.specs.Int.{bit_at}
use Rattle.std.proofs.lemmas.Nat.Bits.{bit_at_and, bit_at_or, bit_at_xor, bit_at_not, bit_at-lt}
use Rattle.eco_func.specs.Tables.{bit}
use Rattle.eco_func.specs.Expressions.{differ}
use Rattle.eco_func.proofs.RowBits.{two}

abbrev Meets : ℕ → ℕ → Type 0
Meets a b = (min a b == 1) ≡ (a == 1 && b == 1)

pub and_bit : (a b r : ℕ) → bit (bit_and a b) r ≡ (bit a r && bit b r)
and_bit a b r =
    ap (λ x. x == 1) (bit_at_and a b r)
    ∙ two (λ x. Meets x (bit_at b r)) (two (λ y. Meets 0 y) refl refl (bit_at b r) (bit_at-lt b r)) (two (λ y. Meets 1 y) refl refl (bit_at b r) (bit_at-lt b r)) (bit_at a r) (bit_at-lt a r)

abbrev Unites : ℕ → ℕ → Type 0
Unites a b = (max a b == 1) ≡ (a == 1 || b == 1)

pub or_bit : (a b r : ℕ) → bit (bit_or a b) r ≡ (bit a r || bit b r)
or_bit a b r =
    ap (λ x. x == 1) (bit_at_or a b r)
    ∙ two (λ x. Unites x (bit_at b r)) (two (λ y. Unites 0 y) refl refl (bit_at b r) (bit_at-lt b r)) (two (λ y. Unites 1 y) refl refl (bit_at b r) (bit_at-lt b r)) (bit_at a r) (bit_at-lt a r)

abbrev Differ : ℕ → ℕ → Type 0
Differ a b = ((a + b) % 2 == 1) ≡ differ (a == 1) (b == 1)

pub xor_bit : (a b r : ℕ) → bit (bit_xor a b) r ≡ differ (bit a r) (bit b r)
xor_bit a b r =
    ap (λ x. x == 1) (bit_at_xor a b r)
    ∙ two (λ x. Differ x (bit_at b r)) (two (λ y. Differ 0 y) refl refl (bit_at b r) (bit_at-lt b r)) (two (λ y. Differ 1 y) refl refl (bit_at b r) (bit_at-lt b r)) (bit_at a r) (bit_at-lt a r)

abbrev Turns : ℕ → Type 0
Turns a = (1 - a == 1) ≡ not (a == 1)

pub not_bit : (a r : ℕ) → a < 18446744073709551616 → r < 64 → bit (18446744073709551615 - a) r ≡ not (bit a r)
not_bit a r fits small =
    ap (λ x. x == 1) (bit_at_not w64 a r fits small) ∙ two Turns refl refl (bit_at a r) (bit_at-lt a r)
