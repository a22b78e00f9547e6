-- The first place that passes a test is the first at which a fact holds.
use Rattle.std.proofs.Common.{◌≡◌, Bool, true, false, cond, List, [], ◌∷◌, ◌++◌, Option, Some, None, refl, sym, ap, ◌∙◌, inl, inr, ⊎_elim, true≢false}
use Rattle.std.specs.List.{Contains, find}
use Rattle.eco_net.proofs.Basics.{Has, contains_from_has, has_from_contains}
use Rattle.eco_pin_faults.specs.Places.{PinPlace}
use Rattle.eco_pin_faults.specs.Laws.{IsFirst, FirstIs}

abbrev Passes : (PinPlace → Bool) → PinPlace → Type 0
Passes test p = test p ≡ true

module _ (test : PinPlace → Bool) where
  past : (p : PinPlace) (ps : List PinPlace) → test p ≡ false → ((q : PinPlace) → Contains ps q → Passes test q → ⊥) → (q : PinPlace) → Contains (p ∷ ps) q → Passes test q → ⊥
  past p ps e none q h t = ⊎_elim
      (λ s. true≢false (sym t ∙ ap test (sym s) ∙ e))
      (λ i. none q (contains_from_has ps q i) t)
      (has_from_contains (p ∷ ps) q h)

  step : (p : PinPlace) (ps : List PinPlace) (b : Bool) (o : Option PinPlace) → test p ≡ b → FirstIs (Passes test) ps o → FirstIs (Passes test) (p ∷ ps) (cond b (Some p) o)
  step p ps true o e f = record { before = []; behind = ps; stands = refl; holds = e; none = λ q h t. absurd (has_from_contains [] q h) }
  step p ps false None e f = past p ps e f
  step p ps false (Some r) e f = record {
    before = p ∷ f.before;
    behind = f.behind;
    stands = ap (λ qs. p ∷ qs) f.stands;
    holds = f.holds;
    none = past p f.before e f.none;
  }

  pub first_by : (ps : List PinPlace) → FirstIs (Passes test) ps (find test ps)
  first_by [] = λ q h t. absurd (has_from_contains [] q h)
  first_by (p ∷ ps) = step p ps (test p) (find test ps) refl (first_by ps)

-- facts that hold at the same places have the same first place
pub same_first : (P Q : PinPlace → Type 0) (ps : List PinPlace) → ((p : PinPlace) → P p → Q p) → ((p : PinPlace) → Q p → P p) → (o : Option PinPlace) → FirstIs P ps o → FirstIs Q ps o
same_first P Q ps to from None f = λ q h k. f q h (from q k)
same_first P Q ps to from (Some p) f = record { before = f.before; behind = f.behind; stands = f.stands; holds = to p f.holds; none = λ q h k. f.none q h (from q k) }

pub first_is : (P : PinPlace → Type 0) (test : PinPlace → Bool) (ps : List PinPlace) → ((p : PinPlace) → test p ≡ true → P p) → ((p : PinPlace) → P p → test p ≡ true) → FirstIs P ps (find test ps)
first_is P test ps to from = same_first (Passes test) P ps to from (find test ps) (first_by test ps)

-- what holds first stands among the places
pub first_among : (P : PinPlace → Type 0) (ps : List PinPlace) (p : PinPlace) → IsFirst P ps p → Has ps p
first_among P ps p f = in_middle f.before f.behind ps f.stands
  where
    middle : (xs ys : List PinPlace) → Has (xs ++ p ∷ ys) p
    middle [] ys = inl refl
    middle (x ∷ xs) ys = inr (middle xs ys)

    in_middle : (xs ys zs : List PinPlace) → zs ≡ xs ++ p ∷ ys → Has zs p
    in_middle xs ys zs e = along (sym e) (middle xs ys)
      where
        along : {us vs : List PinPlace} → us ≡ vs → Has us p → Has vs p
        along g h = rw (← g) h
