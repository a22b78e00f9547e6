-- Rows, bits and characters.
use Rattle.std.proofs.Common.{◌≡◌, ℕ, zero, suc, ◌+◌, ◌*◌, ◌/◌, ◌%◌, ◌^◌, ◌<◌, ◌==◌, Bool, true, false, cond, ◌&&◌, ◌||◌, List, [], ◌∷◌, length, map, get_or, slice_index_or, Some, None, refl, ap, ◌∙◌, sym, arith}
use Rattle.std.specs.Int.{bit_at}
use Rattle.std.specs.List.{list_all}
use Rattle.std.proofs.lemmas.Bool.{and_parts}
use Rattle.std.proofs.lemmas.Bool.Decides.{nat_tests}
use Rattle.std.proofs.lemmas.Nat.Bits.{bit_at-zero, bit_at_lowest, bit_at-suc}
use Rattle.eco_func.specs.Tables.{TruthTable, row, at}
use Rattle.eco_func.specs.FunctionsFile.{is_bit, is_one, table_of}

lowest : (b : Bool) (n : ℕ) → ((cond b 1 0 + 2 * n) % 2 == 1) ≡ b
lowest true n = let e : (1 + 2 * n) % 2 ≡ 1 = omega arith in ap (λ x. x == 1) e
lowest false n = let e : (0 + 2 * n) % 2 ≡ 0 = omega arith in ap (λ x. x == 1) e

higher : (b : Bool) (n : ℕ) → (cond b 1 0 + 2 * n) / 2 ≡ n
higher true n = omega arith
higher false n = omega arith

-- bit i of a list's row is bit i of the list
pub bit_of_row : (bits : List Bool) (i : ℕ) → (row bits / 2 ^ i % 2 == 1) ≡ slice_index_or bits i false
bit_of_row [] i = ap (λ x. x == 1) (bit_at-zero i)
bit_of_row (b ∷ bits) zero = ap (λ x. x == 1) (bit_at_lowest (row (b ∷ bits))) ∙ lowest b (row bits)
bit_of_row (b ∷ bits) (suc i) =
    ap (λ x. x == 1) (bit_at-suc (row (b ∷ bits)) i ∙ ap (λ n. bit_at n i) (higher b (row bits))) ∙ bit_of_row bits i

-- a character 0 or 1 by its test
character : (c : ℕ) → is_bit c ≡ true → c ≡ cond (is_one c) 49 48
character c h = cases (c == 48) (c == 49) refl refl h
  where
    equal : (a b : ℕ) → (a == b) ≡ true → a ≡ b
    equal a b t = grind (arith, nat_tests)

    cases : (x y : Bool) → (c == 48) ≡ x → (c == 49) ≡ y → (x || y) ≡ true → c ≡ cond (is_one c) 49 48
    cases x true e f t = equal c 49 f ∙ sym (ap (λ b. cond b 49 48) f)
    cases true false e f t = equal c 48 e ∙ sym (ap (λ b. cond b 49 48) f)
    cases false false e f t = absurd (cc)

character_at : (text : List ℕ) (r : ℕ) → list_all is_bit text ≡ true → r < length text → get_or text r 0 ≡ cond (slice_index_or (map is_one text) r false) 49 48
character_at [] r h lt = absurd (omega arith)
character_at (c ∷ text) zero h lt = character c (and_parts (is_bit c) (list_all is_bit text) h).0
character_at (c ∷ text) (suc r) h lt = character_at text r (and_parts (is_bit c) (list_all is_bit text) h).1 (omega arith)

-- the character at each place is the value at that row
pub characters : (m : ℕ) (text : List ℕ) (t : TruthTable) → table_of m text ≡ Some t
    → (t.inputs ≡ m) × (length text ≡ 2 ^ m) × ((r : ℕ) → r < 2 ^ m → get_or text r 0 ≡ cond (at t r) 49 48)
characters m text t h = by_test (length text == 2 ^ m && list_all is_bit text) refl h
  where
    equal : (a b : ℕ) → (a == b) ≡ true → a ≡ b
    equal a b t = grind (arith, nat_tests)

    by_test : (b : Bool) → (length text == 2 ^ m && list_all is_bit text) ≡ b → cond b (Some (record { inputs = m; bits = row (map is_one text) })) None ≡ Some t
        → (t.inputs ≡ m) × (length text ≡ 2 ^ m) × ((r : ℕ) → r < 2 ^ m → get_or text r 0 ≡ cond (at t r) 49 48)
    by_test false e h = absurd (cc)
    by_test true e h =
        let same : record { inputs = m; bits = row (map is_one text) } ≡ t = cc in
        let both = and_parts (length text == 2 ^ m) (list_all is_bit text) e in
        let count = equal (length text) (2 ^ m) both.0 in (
          ap (λ t. t.inputs) (sym same),
          count,
          λ r lt. character_at text r both.1 (omega (arith, count)) ∙ ap (λ b. cond b 49 48) (sym (bit_of_row (map is_one text) r) ∙ ap (λ t. at t r) same),
        )
