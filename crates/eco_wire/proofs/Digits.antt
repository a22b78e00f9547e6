-- Digits and the numbers that they write.
use Rattle.std.proofs.Common.{rules, ltb-true, ◌==◌, suc, zero, ◌≡◌, ℕ, ◌<◌, ◌≤◌, ◌^◌, Bool, true, false, ◌&&◌, List, [], ◌∷◌, length, get_or, Some, None, refl, sym, ap, ◌∙◌, subst, arith}
use Rattle.std.specs.Prelude.{decimal, if◌then◌else◌}
use Rattle.std.specs.Char.{is_ascii_digit}
use Rattle.std.specs.List.{list_all}
use Rattle.std.specs.Str.Parse.{digits_value}
use Rattle.std.proofs.lemmas.Str.Parse.{IsNumeralModel, numerals_by_value}
use Rattle.std.proofs.lemmas.Fmt.{decimal-digits_value, digits_decimal, digits_value-decimal, decimal_nonempty, length-decimal-le, first_decimal, decimal_digit}
use Rattle.std.proofs.lemmas.Bool.{eq-eqb, eqb-true, lt-ltb, le-leb, leb-true}
use Rattle.eco_wire.specs.Numbers.{are_digits, number_of_digits, leads_with_zero}

abbrev pub AreDigits : List ℕ → Type 0
AreDigits ds = list_all is_ascii_digit ds ≡ true

pub own : IsNumeralModel AreDigits (digits_value 10)
own = numerals_by_value AreDigits (search rules)

picked : (test : Bool) (v n : ℕ) → (if test then Some v else None) ≡ Some n → (test ≡ true) × (v ≡ n)
picked true v n e = (refl, cc)
picked false v n e = cc

pub both : (a b : Bool) → (a && b) ≡ true → (a ≡ true) × (b ≡ true)
both true b e = (refl, e)
both false b e = cc

pub digit_range : (c : ℕ) → is_ascii_digit c ≡ true → (48 ≤ c) × (c ≤ 57)
digit_range c digit =
    let parts = both _ _ digit in
    (leb-true _ _ parts.0, leb-true _ _ parts.1)

-- the first digit of at least two isn't a zero
one_zero : (text : List ℕ) → leads_with_zero text ≡ false → get_or text 0 0 ≡ 48 → 0 < length text → length text ≡ 1
one_zero [] plain first some = omega arith
one_zero (d ∷ []) plain first some = refl
one_zero (d ∷ e ∷ ds) plain first some = let hit : (d == 48) ≡ true = eq-eqb d 48 first in cc

-- what is read is the number whose digits these are
pub decimal_of_digits : (text : List ℕ) (n : ℕ) → leads_with_zero text ≡ false → number_of_digits text ≡ Some n → n < 2 ^ 64
    → text ≡ decimal n
decimal_of_digits text n plain read small =
    let test = picked (are_digits text) (digits_value 10 text) n read in
    let parts = both _ _ test.0 in
    let some : 0 < length text = ltb-true _ _ (both _ _ parts.0).0 in
    let value : digits_value 10 text ≡ n = test.1 in
    let fits : digits_value 10 text < 2 ^ 64 = omega arith in
    sym (decimal-digits_value own text parts.1 some (λ first. one_zero text plain first some) fits) ∙ ap decimal value

plain_by : (text : List ℕ) → (get_or text 0 0 ≡ 48 → length text ≡ 1) → leads_with_zero text ≡ false
plain_by [] one = refl
plain_by (d ∷ []) one = refl
plain_by (d ∷ e ∷ ds) one = by_test (d == 48) refl
  where
    by_test : (t : Bool) → (d == 48) ≡ t → t ≡ false
    by_test true here = absurd (let first : d ≡ 48 = eqb-true d 48 here in let short = one first in omega arith)
    by_test false here = refl

one_for_zero : (n : ℕ) → n < 2 ^ 64 → get_or (decimal n) 0 0 ≡ 48 → length (decimal n) ≡ 1
one_for_zero zero small first = ap length (decimal_digit 0 (omega arith))
one_for_zero (suc n) small first = absurd (omega (arith, first_decimal (suc n) (omega arith) small))

-- the digits of a number are read
pub digits_of_decimal : (text : List ℕ) (n : ℕ) → n < 2 ^ 64 → text ≡ decimal n
    → (leads_with_zero text ≡ false) × (number_of_digits text ≡ Some n)
digits_of_decimal text n small same =
    let P : List ℕ → Type 0 = λ t. (leads_with_zero t ≡ false) × (number_of_digits t ≡ Some n) in
    subst P (sym same) (
      plain_by (decimal n) (one_for_zero n small),
      by_tests _ _ _ (lt-ltb _ _ (decimal_nonempty n small)) (le-leb _ _ (length-decimal-le 20 n (omega arith) (omega arith) small)) (digits_decimal own n small) (digits_value-decimal own n small),
    )
  where
    by_tests : (a b c : Bool) → {v : ℕ} → a ≡ true → b ≡ true → c ≡ true → v ≡ n → (if a && b && c then Some v else None) ≡ Some n
    by_tests a b c {v} x y z e = rw (x, y, z, e) refl
