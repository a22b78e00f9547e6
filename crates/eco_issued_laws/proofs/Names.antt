-- Names and numbers are words where they are printed.
use Rattle.std.proofs.Common.{◌≡◌, ℕ, zero, suc, ◌+◌, ◌/◌, ◌%◌, ◌<◌, ◌==◌, nat_le, ◌&&◌, ◌||◌, Bool, true, false, not, List, [], ◌∷◌, length, decimal, refl, sym, arith, true≢false, if◌then◌else◌}
use Rattle.std.specs.List.{list_all}
use Rattle.std.specs.Fmt.{digits, digits_onto, digit_glyph}
use Rattle.std.proofs.lemmas.Bool.{and_parts, or_parts}
use Rattle.std.proofs.lemmas.Bool.Decides.{nat_tests}
use Rattle.eco_text.specs.Words.{is_blank}
use Rattle.eco_common.specs.declared.limits.TheConstants.{MAX_NAME_BYTES}
use Rattle.eco_common.specs.NameBytes.{is_name_byte, is_mark, is_name as is_name_of}
use Rattle.eco_text.specs.Tokens.{is_name, can_name}
use Rattle.eco_issued_laws.proofs.Allowed.{NoBlank, IsWord, bare, IsName}
use Rattle.eco_issued_laws.proofs.Sorting.{not_true}

-- ---- names

name_byte : (b : ℕ) → is_name_byte b ≡ true → is_blank b ≡ false
name_byte b e = grind (arith, nat_tests)

name_bytes : (bs : List ℕ) → list_all is_name_byte bs ≡ true → NoBlank bs
name_bytes [] e = tt
name_bytes (b ∷ bs) e = let p = and_parts (is_name_byte b) (list_all is_name_byte bs) e in (name_byte b p.0, name_bytes bs p.1)

printable : (w : List ℕ) → is_name (bare w) ≡ true → list_all is_name_byte w ≡ true
printable w e =
    let named = and_parts (not (is_mark w)) (is_name_of w) e in
    (and_parts (nat_le 1 (length w) && nat_le (length w) MAX_NAME_BYTES) (list_all is_name_byte w) named.1).1

pub name_when : (w : List ℕ) → can_name w ≡ true → IsName w
name_when [] e = absurd (true≢false (sym e))
name_when (b ∷ bs) e =
    let p = and_parts (not (b == 35 || b == 34)) (is_name (bare (b ∷ bs))) e in
    let signs = or_parts (b == 35) (b == 34) (not_true (b == 35 || b == 34) p.0) in
    let clear = name_bytes (b ∷ bs) (printable (b ∷ bs) p.1) in
    ((clear.0, signs.0, signs.1, clear.1), p.1)

pub can_name_when : (w : List ℕ) → IsName w → can_name w ≡ true
can_name_when [] ok = absurd ok.0
can_name_when (b ∷ bs) ok =
    let signs : not (b == 35 || b == 34) ≡ true = rw (ok.0.1, ok.0.2) refl in
    rw (signs, ok.1) refl

-- ---- numbers

glyph_low : (d : ℕ) → d < 10 → digit_glyph false d ≡ 48 + d
glyph_low d lt = grind (arith, nat_tests)

digit_byte : (n : ℕ) → (is_blank (digit_glyph false (n % 10)) ≡ false) × ((digit_glyph false (n % 10) == 35) ≡ false) × ((digit_glyph false (n % 10) == 34) ≡ false)
digit_byte n = (grind (arith, nat_tests), grind (arith, nat_tests), grind (arith, nat_tests))

word_push : (b : ℕ) (w : List ℕ) → (is_blank b ≡ false) × ((b == 35) ≡ false) × ((b == 34) ≡ false) → NoBlank w → IsWord (b ∷ w)
word_push b w ok blanks = (ok.0, ok.1, ok.2, blanks)

digits_word : (k n : ℕ) (acc : List ℕ) → NoBlank acc → IsWord (digits_onto (suc k) 10 false n acc)
digits_word zero n acc blanks = last (n / 10 == 0)
  where
    last : (b : Bool) → IsWord (if b then digit_glyph false (n % 10) ∷ acc else digit_glyph false (n % 10) ∷ acc)
    last true = word_push (digit_glyph false (n % 10)) acc (digit_byte n) blanks
    last false = word_push (digit_glyph false (n % 10)) acc (digit_byte n) blanks
digits_word (suc k) n acc blanks = go (n / 10 == 0) (digits_word k (n / 10) (digit_glyph false (n % 10) ∷ acc) ((digit_byte n).0, blanks))
  where
    go : (b : Bool) → IsWord (digits_onto (suc k) 10 false (n / 10) (digit_glyph false (n % 10) ∷ acc)) →
        IsWord (if b then digit_glyph false (n % 10) ∷ acc else digits_onto (suc k) 10 false (n / 10) (digit_glyph false (n % 10) ∷ acc))
    go true rest = word_push (digit_glyph false (n % 10)) acc (digit_byte n) blanks
    go false rest = rest

pub decimal_word : (n : ℕ) → IsWord (decimal n)
unfolding digits
decimal_word n = digits_word 63 n [] tt
