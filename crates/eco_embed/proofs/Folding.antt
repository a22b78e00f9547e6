-- A function of several pins with its first pin fed.
use Rattle.std.proofs.Common.{◌≡◌, ℕ, suc, ◌+◌, ◌*◌, ◌/◌, ◌^◌, ◌<◌, ◌≤◌, Bool, true, false, cond, List, [], ◌∷◌, length, take, get_or, ap, ◌∙◌, sym, subst, arith}
use Rattle.std.proofs.Math.Nat.{pow-suc}
use Rattle.std.proofs.lemmas.List.{get_or-take}
use Rattle.std.proofs.lemmas.Nat.{pow_pos}
use Rattle.eco_func.specs.Tables.{TruthTable}
use Rattle.eco_embed.specs.declared.feed.Feed.{Feed}
use Rattle.eco_embed.specs.Feeds.{feed_bit, fed_row}
use Rattle.eco_func.specs.Tables.{bit}
use Rattle.eco_embed.specs.Words.{value, Meets, IsFed}
use Rattle.eco_func.proofs.Powers.{few_rows}

bit_most : (b : Bool) → cond b 1 0 ≤ 1
bit_most true = omega arith
bit_most false = omega arith

-- a row of so many bits
pub fed_row_below : (feeds : List Feed) (r : ℕ) → fed_row feeds r < 2 ^ length feeds
fed_row_below [] r = omega (arith, pow_pos 0)
fed_row_below (f ∷ fs) r = omega (arith, fed_row_below fs r, bit_most (feed_bit r f), pow-suc 2 (length fs))

-- a choice between neighbours
neighbour : (words : List ℕ) (s r : ℕ) (b : Bool) → cond b (bit (get_or words (2 * s + 1) 0) r) (bit (get_or words (2 * s) 0) r) ≡ bit (get_or words (cond b 1 0 + 2 * s) 0) r
neighbour words s r true = ap (λ n. bit (get_or words n 0) r) (omega arith)
neighbour words s r false = ap (λ n. bit (get_or words n 0) r) (omega arith)

pub half : (words : List ℕ) (n : ℕ) → length words ≡ 2 ^ suc n → length words / 2 ≡ 2 ^ n
half words n e = omega (arith, e, pow-suc 2 n)

pub fed_value : (words left : List ℕ) (f : Feed) (fs : List Feed) (r : ℕ) → r < 64 → length words ≡ 2 ^ suc (length fs) → IsFed words left f
    → value (take (length words / 2) left) fs r ≡ value words (f ∷ fs) r
fed_value words left f fs r small e halves =
    let s = fed_row fs r in
    let below = fed_row_below fs r in
    ap (λ w. bit w r) (get_or-take (length words / 2) left s 0 (omega (arith, half words (length fs) e, below)))
    ∙ halves s r small (omega (arith, e, pow-suc 2 (length fs), below))
    ∙ neighbour words s r (feed_bit r f)

module _ (want : TruthTable) (few : want.inputs ≤ 6) (words left : List ℕ) (f : Feed) (fs : List Feed) (e : length words ≡ 2 ^ suc (length fs)) (halves : IsFed words left f) where
  at_row : (r : ℕ) → r < 2 ^ want.inputs → value (take (length words / 2) left) fs r ≡ value words (f ∷ fs) r
  at_row r h = fed_value words left f fs r (omega (arith, h, few_rows want.inputs few)) e halves

  pub rest_meets : Meets want (take (length words / 2) left) fs → Meets want words (f ∷ fs)
  rest_meets m r h = sym (at_row r h) ∙ m r h

  pub meets_rest : Meets want words (f ∷ fs) → Meets want (take (length words / 2) left) fs
  meets_rest m r h = at_row r h ∙ m r h

-- the same with the feeds as one list
module _ (want : TruthTable) (few : want.inputs ≤ 6) (words left : List ℕ) (feeds : List Feed) (f : Feed) (fs : List Feed) (is : feeds ≡ f ∷ fs) (e : length words ≡ 2 ^ length feeds) (halves : IsFed words left f) where
  pub longer : length words ≡ 2 ^ suc (length fs)
  longer = e ∙ ap (λ l. 2 ^ length l) is

  pub all_meet : Meets want (take (length words / 2) left) fs → Meets want words feeds
  all_meet m = subst (Meets want words) (sym is) (rest_meets want few words left f fs longer halves m)

  pub meet_all : Meets want words feeds → Meets want (take (length words / 2) left) fs
  meet_all m = meets_rest want few words left f fs longer halves (subst (Meets want words) is m)
