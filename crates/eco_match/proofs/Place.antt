use Rattle.std.proofs.Common.{ℕ, zero, suc, ◌+◌, ◌-◌, ◌≤◌, ◌<◌, ◌≡◌, ◌≢◌, eqb, List, length, slice_index, Bool, true, false, refl, sym, ap, ◌∙◌, arith}
use Rattle.std.proofs.lemmas.Bool.Decides.{nat_tests}
use Rattle.eco_match.specs.declared.table.Table.{Table}
use Rattle.eco_match.specs.declared.answer.MatchOut.{MatchOut}
use Rattle.eco_match.specs.Table.{InRow, spare_at, AreRising}
use Rattle.eco_match.specs.Work.{find_place, place_in, pair_at}
use Rattle.eco_match.proofs.Order.{below, same, above, compare'}

place-here : (spares : List ℕ) (s from n j : ℕ) (b : Bool) → eqb (slice_index spares (from + n)) s ≡ b → j < from + suc n → slice_index spares j ≡ s →
    ((i : ℕ) → from ≤ i → i < from + suc n → slice_index spares i ≡ s → i ≡ j) → (j < from + n → find_place spares s from n ≡ j) → find_place spares s from (suc n) ≡ j
place-here spares s from n j true is last here only before =
    let q : slice_index spares (from + n) ≡ s = grind (arith, nat_tests) in
    rw is (only (from + n) (omega arith) (omega arith) q)
place-here spares s from n j false is last here only before =
    let ne : slice_index spares (from + n) ≢ s = grind (arith, nat_tests) in
    let less : j < from + n = elim (compare' j (from + n)) [
      | below b ↦ b
      | same e ↦ absurd (ne (ap (λ (i : ℕ). slice_index spares i) (sym e) ∙ here))
      | above b ↦ absurd (omega arith)
    ] in
    rw is (before less)

-- the only place that has the spare is found
pub place-only : (spares : List ℕ) (s from n j : ℕ) → from ≤ j → j < from + n → slice_index spares j ≡ s →
    ((i : ℕ) → from ≤ i → i < from + n → slice_index spares i ≡ s → i ≡ j) → find_place spares s from n ≡ j
place-only spares s from zero j first last here only = absurd (omega arith)
place-only spares s from (suc n) j first last here only =
    place-here spares s from n j (eqb (slice_index spares (from + n)) s) refl last here only
    (λ less. place-only spares s from n j first less here (λ i low high e. only i low (omega arith) e))

found-at : (spares : List ℕ) (s from n : ℕ) (b : Bool) → eqb (slice_index spares (from + n)) s ≡ b →
    (find_place spares s from n < length spares → slice_index spares (find_place spares s from n) ≡ s) →
    find_place spares s from (suc n) < length spares → slice_index spares (find_place spares s from (suc n)) ≡ s
found-at spares s from n true is before =
    let q : slice_index spares (from + n) ≡ s = grind (arith, nat_tests) in
    rw is (λ less. q)
found-at spares s from n false is before = rw is before

-- what is found has the spare
pub place-found : (spares : List ℕ) (s from n : ℕ) → find_place spares s from n < length spares → slice_index spares (find_place spares s from n) ≡ s
place-found spares s from zero less = absurd (omega arith)
place-found spares s from (suc n) less = found-at spares s from n (eqb (slice_index spares (from + n)) s) refl (place-found spares s from n) less

-- the pair of a gate's row is found by its spare
pub place_in-row : (t : Table) (k j : ℕ) → AreRising t → InRow t k j → place_in t k (spare_at t j) ≡ j
place_in-row t k j rising row =
    let from = slice_index t.starts.now k in
    let end = slice_index t.ends.now k in
    place-only t.spares.now (spare_at t j) from (end - from) j row.0 (omega (arith, row.0, row.1)) refl
    (λ i low high e.
    let other : InRow t k i = (low, omega (arith, low, high)) in
    elim (compare' i j) [
      | below b ↦ absurd (let r = rising k i j other row b in omega (arith, r, e))
      | same q ↦ q
      | above b ↦ absurd (let r = rising k j i row other b in omega (arith, r, e))
    ])

pub pair-here : (t : Table) (out : MatchOut) (k j : ℕ) → AreRising t → 0 < k → InRow t k j → slice_index out.spare (k - 1) ≡ spare_at t j → pair_at t out k ≡ j
unfolding pair_at
pair-here t out zero j rising some row is = absurd (omega arith)
pair-here t out (suc g) j rising some row is =
    let e : g ≡ suc g - 1 = omega arith in
    ap (λ (i : ℕ). place_in t (suc g) (slice_index out.spare i)) e ∙ ap (λ (s : ℕ). place_in t (suc g) s) is ∙ place_in-row t (suc g) j rising row

pub pair-same : (t : Table) (out out' : MatchOut) (k : ℕ) → (0 < k → slice_index out'.spare (k - 1) ≡ slice_index out.spare (k - 1)) → pair_at t out' k ≡ pair_at t out k
unfolding pair_at
pair-same t out out' zero is = refl
pair-same t out out' (suc g) is =
    let e : g ≡ suc g - 1 = omega arith in
    ap (λ (i : ℕ). place_in t (suc g) (slice_index out'.spare i)) e ∙ ap (λ (s : ℕ). place_in t (suc g) s) (is (omega arith)) ∙ sym (ap (λ (i : ℕ). place_in t (suc g) (slice_index out.spare i)) e)

pub pairs-same : (t : Table) (out out' : MatchOut) → out'.spare ≡ out.spare → (k : ℕ) → pair_at t out' k ≡ pair_at t out k
pairs-same t out out' e k = pair-same t out out' k (λ some. ap (λ (xs : List ℕ). slice_index xs (k - 1)) e)

-- the pair has the spare that the answer gives
pub pair-spare : (t : Table) (out : MatchOut) (k : ℕ) → 0 < k → pair_at t out k < length t.spares.now → spare_at t (pair_at t out k) ≡ slice_index out.spare (k - 1)
unfolding pair_at
pair-spare t out zero some less = absurd (omega arith)
pair-spare t out (suc g) some less =
    let e : g ≡ suc g - 1 = omega arith in
    place-found t.spares.now (slice_index out.spare g) (slice_index t.starts.now (suc g)) (slice_index t.ends.now (suc g) - slice_index t.starts.now (suc g)) less
    ∙ ap (λ (i : ℕ). slice_index out.spare i) e
