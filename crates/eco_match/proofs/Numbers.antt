use Rattle.std.proofs.Common.{ℕ, zero, suc, ◌-◌, ◌^◌, ◌≤◌, ◌<◌, ◌≡◌, ◌≢◌, List, length, refl, ap, ◌∙◌, arith, sym, inl, inr, ℤ, pos, negsuc}
use Rattle.std.specs.Prelude.{slice_index_or, slice_set}
use Rattle.std.proofs.lemmas.List.{get_or-set_same, get_or-set_other, get_or-replicate}
use Rattle.std.proofs.Math.ListN.{replicate}
use Rattle.eco_match.specs.declared.answer.MatchOut.{MatchOut}
use Rattle.eco_match.specs.Phase.{AreBounded}
use Rattle.eco_match.specs.Work.{natural, worth_at, price_at, SetsWorth, SetsPrice}
use Rattle.eco_match.proofs.Order.{split}

-- a number of the search is no number below 0
pub natural-pos : (z : ℤ) → natural z < 2 ^ 127 → z ≡ pos (natural z)
natural-pos (pos n) small = refl
natural-pos (negsuc n) small = absurd (omega arith)

pub worth_at-gate : (out : MatchOut) (k : ℕ) → 0 < k → worth_at out k ≡ natural (slice_index_or out.worth (k - 1) (pos 0))
unfolding worth_at
worth_at-gate out zero some = absurd (omega arith)
worth_at-gate out (suc g) some = (let e : g ≡ suc g - 1 = omega arith in ap (λ (i : ℕ). natural (slice_index_or out.worth i (pos 0))) e)

pub price_at-gate : (out : MatchOut) (k : ℕ) → 0 < k → price_at out k ≡ natural (slice_index_or out.price (k - 1) (pos 0))
unfolding price_at
price_at-gate out zero some = absurd (omega arith)
price_at-gate out (suc g) some = (let e : g ≡ suc g - 1 = omega arith in ap (λ (i : ℕ). natural (slice_index_or out.price i (pos 0))) e)

pub worth_at-zero : (out : MatchOut) → worth_at out 0 ≡ 0
unfolding worth_at
worth_at-zero out = refl

pub price_at-zero : (out : MatchOut) → price_at out 0 ≡ 0
unfolding price_at
price_at-zero out = refl

-- no number is read but those of the field
pub worths-same : (out out' : MatchOut) → out'.worth ≡ out.worth → (k : ℕ) → worth_at out' k ≡ worth_at out k
unfolding worth_at
worths-same out out' e zero = refl
worths-same out out' e (suc g) = ap (λ (xs : List ℤ). natural (slice_index_or xs g (pos 0))) e

pub prices-same : (out out' : MatchOut) → out'.price ≡ out.price → (k : ℕ) → price_at out' k ≡ price_at out k
unfolding price_at
prices-same out out' e zero = refl
prices-same out out' e (suc g) = ap (λ (xs : List ℤ). natural (slice_index_or xs g (pos 0))) e

abbrev pub with_worth : MatchOut → ℕ → ℤ → MatchOut
with_worth out k z = record { spare = out.spare; worth = slice_set out.worth (k - 1) z; price = out.price; short = out.short }

abbrev pub with_price : MatchOut → ℕ → ℤ → MatchOut
with_price out k z = record { spare = out.spare; worth = out.worth; price = slice_set out.price (k - 1) z; short = out.short }

worth-other : (out : MatchOut) (k : ℕ) (z : ℤ) (i : ℕ) → 0 < k → i ≢ k → worth_at (with_worth out k z) i ≡ worth_at out i
worth-other out k z zero some ne = worth_at-zero (with_worth out k z) ∙ sym (worth_at-zero out)
worth-other out k z (suc g) some ne =
    let apart : suc g - 1 ≢ k - 1 = omega arith in
    worth_at-gate (with_worth out k z) (suc g) (omega arith)
    ∙ ap natural (get_or-set_other out.worth (k - 1) (suc g - 1) z (pos 0) apart)
    ∙ sym (worth_at-gate out (suc g) (omega arith))

price-other : (out : MatchOut) (k : ℕ) (z : ℤ) (i : ℕ) → 0 < k → i ≢ k → price_at (with_price out k z) i ≡ price_at out i
price-other out k z zero some ne = price_at-zero (with_price out k z) ∙ sym (price_at-zero out)
price-other out k z (suc g) some ne =
    let apart : suc g - 1 ≢ k - 1 = omega arith in
    price_at-gate (with_price out k z) (suc g) (omega arith)
    ∙ ap natural (get_or-set_other out.price (k - 1) (suc g - 1) z (pos 0) apart)
    ∙ sym (price_at-gate out (suc g) (omega arith))

pub sets-worth : (out : MatchOut) (k worth : ℕ) (z : ℤ) → 0 < k → k ≤ length out.worth → z ≡ pos worth → SetsWorth k worth out (with_worth out k z)
sets-worth out k worth z some less is = record {
  here = worth_at-gate (with_worth out k z) k some ∙ ap natural (get_or-set_same out.worth (k - 1) z (pos 0) (omega (arith, some, less))) ∙ ap natural is;
  others = λ i ne. worth-other out k z i some ne;
  prices = prices-same out (with_worth out k z) refl;
  spares = refl;
}

pub sets-price : (out : MatchOut) (k price : ℕ) (z : ℤ) → 0 < k → k ≤ length out.price → z ≡ pos price → SetsPrice k price out (with_price out k z)
sets-price out k price z some less is = record {
  here = price_at-gate (with_price out k z) k some ∙ ap natural (get_or-set_same out.price (k - 1) z (pos 0) (omega (arith, some, less))) ∙ ap natural is;
  others = λ i ne. price-other out k z i some ne;
  worths = worths-same out (with_price out k z) refl;
  spares = refl;
}

-- no worth and no price
pub none-bounded : (out : MatchOut) → out.worth ≡ replicate 128 (pos 0) → out.price ≡ replicate 128 (pos 0) → AreBounded 0 out
none-bounded out worths prices = record {
  worth = λ k less. elim (split k) [
    | inl z ↦ (let e = ap (λ (i : ℕ). worth_at out i) z ∙ worth_at-zero out in omega (arith, e))
    | inr some ↦ (let e = worth_at-gate out k some ∙ ap (λ (xs : List ℤ). natural (slice_index_or xs (k - 1) (pos 0))) worths ∙ ap natural (get_or-replicate 128 (k - 1) (pos 0) (pos 0) (omega (arith, some, less))) in omega (arith, e))
  ];
  price = λ k less. elim (split k) [
    | inl z ↦ (let e = ap (λ (i : ℕ). price_at out i) z ∙ price_at-zero out in omega (arith, e))
    | inr some ↦ (let e = price_at-gate out k some ∙ ap (λ (xs : List ℤ). natural (slice_index_or xs (k - 1) (pos 0))) prices ∙ ap natural (get_or-replicate 128 (k - 1) (pos 0) (pos 0) (omega (arith, some, less))) in omega (arith, e))
  ];
}
