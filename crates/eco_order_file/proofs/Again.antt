-- What stands twice, found with a set of what was seen.
use Rattle.std.proofs.Common.{◌≡◌, ℕ, ◌+◌, Bool, true, false, not, cond, ◌||◌, List, [], ◌∷◌, drop, map, Option, Some, None, ◌<◌, suc, length, get_or, drop-cons, add-one, true≢false, ◌&&◌, Ordering, Less, Equal, Greater, is_eq, refl, sym, ap, ap₂, ◌∙◌}
use Rattle.std.specs.List.{list_any}
use Rattle.std.specs.Option.{option_map}
use Rattle.std.specs.Ordering.{ordering_then}
use Rattle.eco_order_file.specs.Repeats.{first_again, first_twice}

-- the first that was seen before, or stands a second time
abbrev pub again_by : {K : Type 0} → (K → K → Bool) → (K → Bool) → List K → Option K
again_by same has [] = None
again_by same has (x ∷ xs) = cond (has x) (Some x) (again_by same (λ z. same x z || has z) xs)

pub again_by-same : {K : Type 0} (same : K → K → Bool) (f g : K → Bool) (xs : List K) → ((z : K) → f z ≡ g z) → again_by same f xs ≡ again_by same g xs
again_by-same same f g [] h = refl
again_by-same same f g (x ∷ xs) h =
    ap₂ (λ b o. cond b (Some x) o) (h x) (again_by-same same (λ z. same x z || f z) (λ z. same x z || g z) xs (λ z. ap (λ b. same x z || b) (h z)))

pub first_again-by : {K : Type 0} (same : K → K → Bool) (seen xs : List K) → first_again same seen xs ≡ again_by same (λ z. list_any (λ y. same y z) seen) xs
first_again-by same seen [] = refl
first_again-by same seen (x ∷ xs) = ap (cond (list_any (λ y. same y x) seen) (Some x)) (first_again-by same (x ∷ seen) xs)

pub twice_from_none : {K : Type 0} (same : K → K → Bool) (has : K → Bool) (xs : List K) → ((z : K) → has z ≡ false) → first_twice same xs ≡ again_by same has xs
twice_from_none same has xs h = first_again-by same [] xs ∙ again_by-same same _ has xs (λ z. sym (h z))

pub seen_before : {K : Type 0} (same : K → K → Bool) (has : K → Bool) (x : K) (xs : List K) → has x ≡ true → again_by same has (x ∷ xs) ≡ Some x
seen_before same has x xs h = ap (λ b. cond b (Some x) (again_by same (λ z. same x z || has z) xs)) h

pub seen_now : {K : Type 0} (same : K → K → Bool) (has more : K → Bool) (x : K) (xs : List K) → has x ≡ false → ((z : K) → more z ≡ cond (same x z) true (has z)) → again_by same has (x ∷ xs) ≡ again_by same more xs
seen_now same has more x xs h m =
    ap (λ b. cond b (Some x) (again_by same (λ z. same x z || has z) xs)) h ∙ again_by-same same _ more xs (λ z. or_cond (same x z) (has z) ∙ sym (m z))
  where
    or_cond : (a b : Bool) → (a || b) ≡ cond a true b
    or_cond true b = refl
    or_cond false b = refl

-- keys that stand for other things
pub first_again-map : {A B : Type 0} (f : A → B) (same : B → B → Bool) (seen xs : List A) → option_map f (first_again (λ a b. same (f a) (f b)) seen xs) ≡ first_again same (map f seen) (map f xs)
first_again-map f same seen [] = refl
first_again-map {A = A} {B = B} f same seen (x ∷ xs) =
    turn (list_any (λ y. same (f y) (f x)) seen) (list_any (λ y. same y (f x)) (map f seen)) (any seen) _ _ (first_again-map f same (x ∷ seen) xs)
  where
    any : (ys : List A) → list_any (λ y. same (f y) (f x)) ys ≡ list_any (λ y. same y (f x)) (map f ys)
    any [] = refl
    any (y ∷ ys) = ap (λ b. same (f y) (f x) || b) (any ys)

    turn : (b c : Bool) → b ≡ c → (o : Option A) (p : Option B) → option_map f o ≡ p → option_map f (cond b (Some x) o) ≡ cond c (Some (f x)) p
    turn true true e o p h = refl
    turn false false e o p h = h
    turn true false e o p h = absurd (true≢false e)
    turn false true e o p h = absurd (true≢false (sym e))

-- what is left begins with the item at the place
pub left_from : {X : Type 0} (xs : List X) (i : ℕ) (x : X) → i < length xs → x ≡ get_or xs i x → drop i xs ≡ x ∷ drop (i + 1) xs
left_from xs i x h e = rw add-one (drop-cons xs i x h ∙ ap (λ y. y ∷ drop (suc i) xs) (sym e))

any_by : {A : Type 0} (f g : A → Bool) (xs : List A) → ((x : A) → f x ≡ g x) → list_any f xs ≡ list_any g xs
any_by f g [] h = refl
any_by f g (x ∷ xs) h = ap₂ (λ a b. a || b) (h x) (any_by f g xs h)

-- the same sameness finds the same
pub first_again-alike : {A : Type 0} (s t : A → A → Bool) (seen xs : List A) → ((a b : A) → s a b ≡ t a b) → first_again s seen xs ≡ first_again t seen xs
first_again-alike s t seen [] h = refl
first_again-alike s t seen (x ∷ xs) h = ap₂ (λ b o. cond b (Some x) o) (any_by (λ y. s y x) (λ y. t y x) seen (λ y. h y x)) (first_again-alike s t (x ∷ seen) xs h)

pub is_eq-then : (a b : Ordering) → is_eq (ordering_then a b) ≡ (is_eq a && is_eq b)
is_eq-then Less b = refl
is_eq-then Equal b = refl
is_eq-then Greater b = refl
