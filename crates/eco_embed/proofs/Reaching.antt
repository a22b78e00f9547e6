-- Rows at which some word has a 1, and rows at which some word has a 0.
use Rattle.std.proofs.Common.{◌≡◌, ℕ, zero, suc, ◌+◌, ◌-◌, ◌^◌, ◌<◌, ◌≤◌, ◌==◌, max, Bool, true, false, cond, List, length, get_or, refl, ap, ◌∙◌, sym, arith, ⊎_elim, bit_and, bit_or}
use Rattle.std.specs.Int.{bit_at, bit_not, w64}
use Rattle.std.proofs.lemmas.Bool.{cases_lt}
use Rattle.std.proofs.lemmas.Bool.Decides.{nat_tests}
use Rattle.std.proofs.lemmas.Nat.{and_mask, pow_pos}
use Rattle.std.proofs.lemmas.Nat.Bits.{bit_at_or, bit_at_not, bit_at-zero, bit_at-lt, bit_at_ones}
use Rattle.eco_func.specs.Tables.{TruthTable}
use Rattle.eco_func.specs.Tables.{bit}
use Rattle.eco_embed.specs.Words.{Reaches}
use Rattle.eco_func.proofs.RowBits.{agree}
use Rattle.eco_func.proofs.Powers.{few_rows}

-- a word below a place has this bit at a row
abbrev pub Shown : List ℕ → ℕ → ℕ → Bool → Type 0
Shown words place r b = (s : ℕ) × (s < place) × (bit (get_or words s 0) r ≡ b)

-- what is seen of the words below a place
pub record Seen (words : List ℕ) (place highs lows : ℕ) : Type 0 where
  pub high : (s r : ℕ) → s < place → r < 64 → bit (get_or words s 0) r ≡ true → bit highs r ≡ true
  pub low : (s r : ℕ) → s < place → r < 64 → bit (get_or words s 0) r ≡ false → bit lows r ≡ true
  pub high_of : (r : ℕ) → r < 64 → bit highs r ≡ true → Shown words place r true
  pub low_of : (r : ℕ) → r < 64 → bit lows r ≡ true → Shown words place r false

no_bit : (r : ℕ) → bit 0 r ≡ true → ⊥
no_bit r e = different (sym (ap (λ x. x == 1) (bit_at-zero r)) ∙ e)
  where
    different : false ≡ true → ⊥
    different e = cc

pub none_seen : (words : List ℕ) → Seen words 0 0 0
none_seen words = record {
  high = λ s r h. absurd (omega arith);
  low = λ s r h. absurd (omega arith);
  high_of = λ r h e. absurd (no_bit r e);
  low_of = λ r h e. absurd (no_bit r e);
}

or_left : (a b r : ℕ) → bit a r ≡ true → bit (bit_or a b) r ≡ true
or_left a b r h = ap (λ x. x == 1) (bit_at_or a b r) ∙ largest (bit_at a r) (bit_at b r) (bit_at-lt a r) (bit_at-lt b r) h
  where
    largest : (x y : ℕ) → x < 2 → y < 2 → (x == 1) ≡ true → (max x y == 1) ≡ true
    largest x y hx hy h = grind (arith, nat_tests)

or_right : (a b r : ℕ) → bit b r ≡ true → bit (bit_or a b) r ≡ true
or_right a b r h = ap (λ x. x == 1) (bit_at_or a b r) ∙ largest (bit_at a r) (bit_at b r) (bit_at-lt a r) (bit_at-lt b r) h
  where
    largest : (x y : ℕ) → x < 2 → y < 2 → (y == 1) ≡ true → (max x y == 1) ≡ true
    largest x y hx hy h = grind (arith, nat_tests)

or_rest : (a b r : ℕ) → bit (bit_or a b) r ≡ true → bit a r ≡ false → bit b r ≡ true
or_rest a b r h f = rest (bit_at a r) (bit_at b r) (bit_at-lt a r) (bit_at-lt b r) (sym (ap (λ x. x == 1) (bit_at_or a b r)) ∙ h) f
  where
    rest : (x y : ℕ) → x < 2 → y < 2 → (max x y == 1) ≡ true → (x == 1) ≡ false → (y == 1) ≡ true
    rest x y hx hy h f = grind (arith, nat_tests)

bit_of_not : (w r : ℕ) → w < 18446744073709551616 → r < 64 → bit (bit_not w64 w) r ≡ true → bit w r ≡ false
bit_of_not w r small h e = flipped (bit_at w r) (bit_at-lt w r) (sym (ap (λ x. x == 1) (bit_at_not w64 w r small h)) ∙ e)
  where
    flipped : (x : ℕ) → x < 2 → (1 - x == 1) ≡ true → (x == 1) ≡ false
    flipped zero h e = refl
    flipped (suc zero) h e = absurd (cc)
    flipped (suc (suc x)) h e = absurd (omega arith)

-- a bit of a list of words is one of those before, or of the last
shown_more : (words : List ℕ) (place r all w : ℕ) (b : Bool) → (bit all r ≡ true → Shown words place r b) → (bit w r ≡ true → bit (get_or words place 0) r ≡ b)
    → bit (bit_or all w) r ≡ true → Shown words (place + 1) r b
shown_more words place r all w b before last e = by_bit (bit all r) refl
  where
    by_bit : (x : Bool) → bit all r ≡ x → Shown words (place + 1) r b
    by_bit true t = let s = before t in (s.0, (let lt = s.1 in omega arith), s.2)
    by_bit false f = (place, omega arith, last (or_rest all w r e f))

not_bit : (w r : ℕ) → w < 18446744073709551616 → r < 64 → bit w r ≡ false → bit (bit_not w64 w) r ≡ true
not_bit w r small h e = ap (λ x. x == 1) (bit_at_not w64 w r small h) ∙ flipped (bit_at w r) (bit_at-lt w r) e
  where
    flipped : (x : ℕ) → x < 2 → (x == 1) ≡ false → (1 - x == 1) ≡ true
    flipped zero h e = refl
    flipped (suc zero) h e = absurd (cc)
    flipped (suc (suc x)) h e = absurd (omega arith)

-- one more word
pub seen_more : (words : List ℕ) (place highs lows w : ℕ) → w ≡ get_or words place 0 → w < 18446744073709551616 → Seen words place highs lows → Seen words (place + 1) (bit_or highs w) (bit_or lows (18446744073709551615 - w))
seen_more words place highs lows w is fits seen = record {
  high = λ s r h small b.
      ⊎_elim (λ less. or_left highs w r (seen.high s r less small b))
      (λ most. let here : s ≡ place = omega arith in or_right highs w r (ap (λ x. bit x r) (is ∙ ap (λ k. get_or words k 0) (sym here)) ∙ b))
      (cases_lt s place);
  low = λ s r h small b.
      ⊎_elim (λ less. or_left lows (18446744073709551615 - w) r (seen.low s r less small b))
      (λ most.
      let here : s ≡ place = omega arith in
      or_right lows (18446744073709551615 - w) r (not_bit w r fits small (ap (λ x. bit x r) (is ∙ ap (λ k. get_or words k 0) (sym here)) ∙ b)))
      (cases_lt s place);
  high_of = λ r small. shown_more words place r highs w true (seen.high_of r small) (λ t. ap (λ x. bit x r) (sym is) ∙ t);
  low_of = λ r small. shown_more words place r lows (18446744073709551615 - w) false (seen.low_of r small) (λ t. ap (λ x. bit x r) (sym is) ∙ bit_of_not w r fits small t);
}

-- a row whose wanted value some word has
reached : (words : List ℕ) (highs lows : ℕ) → Seen words (length words) highs lows → (s r : ℕ) → s < length words → r < 64 → (b : Bool) → bit (get_or words s 0) r ≡ b → cond b (bit highs r) (bit lows r) ≡ true
reached words highs lows seen s r h small true e = seen.high s r h small e
reached words highs lows seen s r h small false e = seen.low s r h small e

-- all rows are reached
pub all_reached : (want : TruthTable) (words : List ℕ) (highs lows chosen : ℕ) → want.inputs ≤ 6 → Seen words (length words) highs lows
    → ((r : ℕ) → bit chosen r ≡ cond (bit want.bits r) (bit highs r) (bit lows r)) → Reaches want words → bit_and chosen (2 ^ (2 ^ want.inputs) - 1) ≡ 2 ^ (2 ^ want.inputs) - 1
all_reached want words highs lows chosen few seen is reach =
    let rows = 2 ^ want.inputs in
    and_mask chosen rows
    ∙ (agree chosen (2 ^ rows - 1) rows (omega (arith, pow_pos rows))).1
    (λ r h.
    let here = reach r h in
    let small : r < 64 = omega (arith, few_rows want.inputs few) in
    is r ∙ reached words highs lows seen here.0 r here.1 small (bit want.bits r) here.2 ∙ sym (ap (λ x. x == 1) (bit_at_ones rows r h)))

-- a row at which the wanted value is reached
shown : (words : List ℕ) (highs lows : ℕ) → Seen words (length words) highs lows → (r : ℕ) → r < 64 → (b : Bool) → cond b (bit highs r) (bit lows r) ≡ true → Shown words (length words) r b
shown words highs lows seen r small true e = seen.high_of r small e
shown words highs lows seen r small false e = seen.low_of r small e

pub each_reached : (want : TruthTable) (words : List ℕ) (highs lows chosen : ℕ) → want.inputs ≤ 6 → Seen words (length words) highs lows
    → ((r : ℕ) → bit chosen r ≡ cond (bit want.bits r) (bit highs r) (bit lows r)) → bit_and chosen (2 ^ (2 ^ want.inputs) - 1) ≡ 2 ^ (2 ^ want.inputs) - 1 → Reaches want words
each_reached want words highs lows chosen few seen is e r h =
    let rows = 2 ^ want.inputs in
    let small : r < 64 = omega (arith, h, few_rows want.inputs few) in
    let low = (agree chosen (2 ^ rows - 1) rows (omega (arith, pow_pos rows))).0 (sym (and_mask chosen rows) ∙ e) r h in
    shown words highs lows seen r small (bit want.bits r) (sym (is r) ∙ low ∙ ap (λ x. x == 1) (bit_at_ones rows r h))
