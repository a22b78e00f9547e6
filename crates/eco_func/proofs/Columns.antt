-- The values of each input at 64 rows.
use Rattle.std.proofs.Common.{◌≡◌, ℕ, zero, suc, ◌<◌, Bool, true, false, not, ◌&&◌, refl, ap, ◌∙◌, sym, arith, ⊎_elim}
use Rattle.std.proofs.lemmas.Bool.{and_parts, cases_lt}
use Rattle.eco_func.specs.Tables.{bit}

same : Bool → Bool → Bool
same true b = b
same false b = not b

same-eq : (a b : Bool) → same a b ≡ true → a ≡ b
unfolding same
same-eq true true h = refl
same-eq true false h = absurd (cc)
same-eq false true h = absurd (cc)
same-eq false false h = refl

below : ℕ → (ℕ → Bool) → Bool
below zero p = true
below (suc n) p = p n && below n p

below-at : (n : ℕ) (p : ℕ → Bool) → below n p ≡ true → (r : ℕ) → r < n → p r ≡ true
unfolding below
below-at zero p h r lt = absurd (omega arith)
below-at (suc n) p h r lt =
    let both = and_parts (p n) (below n p) h in
    ⊎_elim (λ less. below-at n p both.1 r less) (λ most. let e : n ≡ r = omega arith in ap p (sym e) ∙ both.0) (cases_lt r n)

at_each : (w i : ℕ) → below 64 (λ r. same (bit w r) (bit r i)) ≡ true → (r : ℕ) → r < 64 → bit w r ≡ bit r i
at_each w i h r lt = same-eq (bit w r) (bit r i) (below-at 64 (λ r. same (bit w r) (bit r i)) h r lt)

pub column_0 : (r : ℕ) → r < 64 → bit 12297829382473034410 r ≡ bit r 0
unfolding below same
column_0 = at_each 12297829382473034410 0 refl

pub column_1 : (r : ℕ) → r < 64 → bit 14757395258967641292 r ≡ bit r 1
unfolding below same
column_1 = at_each 14757395258967641292 1 refl

pub column_2 : (r : ℕ) → r < 64 → bit 17361641481138401520 r ≡ bit r 2
unfolding below same
column_2 = at_each 17361641481138401520 2 refl

pub column_3 : (r : ℕ) → r < 64 → bit 18374966859414961920 r ≡ bit r 3
unfolding below same
column_3 = at_each 18374966859414961920 3 refl

pub column_4 : (r : ℕ) → r < 64 → bit 18446462603027742720 r ≡ bit r 4
unfolding below same
column_4 = at_each 18446462603027742720 4 refl

pub column_5 : (r : ℕ) → r < 64 → bit 18446744069414584320 r ≡ bit r 5
unfolding below same
column_5 = at_each 18446744069414584320 5 refl

pub ones : (r : ℕ) → r < 64 → bit 18446744073709551615 r ≡ true
unfolding below same
ones r h = same-eq (bit 18446744073709551615 r) true (below-at 64 (λ r. same (bit 18446744073709551615 r) true) refl r h)
