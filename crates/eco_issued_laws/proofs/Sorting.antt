-- Lists in order have the same values.
use Rattle.std.proofs.Common.{◌≡◌, ℕ, Bool, true, false, not, List, [], ◌∷◌, ◌++◌, refl, sym, ◌∙◌, true≢false, if◌then◌else◌}
use Rattle.std.specs.List.{AllByRecursion, IsDistinct, filter, list_all}
use Rattle.std.specs.Str.{bytes_eq}
use Rattle.std.proofs.lemmas.Bool.{and_parts}
use Rattle.std.proofs.lemmas.Slice.Eq.{bytes_eq-Decides}
use Rattle.eco_issued_laws.specs.Changes.{put_in, in_order, once_each}

pub not_true : (b : Bool) → not b ≡ true → b ≡ false
not_true false e = refl
not_true true e = absurd (true≢false (sym e))

-- ---- what holds of each value

pub all_from : {A : Type 0} (p : A → Bool) (xs : List A) → list_all p xs ≡ true → AllByRecursion (λ x. p x ≡ true) xs
all_from p [] e = tt
all_from p (x ∷ xs) e = let b = and_parts (p x) (list_all p xs) e in (b.0, all_from p xs b.1)

pub all_as : {A : Type 0} (P Q : A → Type 0) → ((x : A) → P x → Q x) → (xs : List A) → AllByRecursion P xs → AllByRecursion Q xs
all_as P Q f [] all = tt
all_as P Q f (x ∷ xs) all = (f x all.0, all_as P Q f xs all.1)

pub all_join : {A : Type 0} (P : A → Type 0) (xs ys : List A) → AllByRecursion P xs → AllByRecursion P ys → AllByRecursion P (xs ++ ys)
all_join P [] ys a b = b
all_join P (x ∷ xs) ys a b = (a.0, all_join P xs ys a.1 b)

pub all_both : {A : Type 0} (P Q : A → Type 0) (xs : List A) → AllByRecursion P xs → AllByRecursion Q xs → AllByRecursion (λ x. P x × Q x) xs
all_both P Q [] a b = tt
all_both P Q (x ∷ xs) a b = ((a.0, b.0), all_both P Q xs a.1 b.1)

-- what passes the test also passed it
pub all_filter : {A : Type 0} (P : A → Type 0) (p : A → Bool) (xs : List A) → AllByRecursion P xs → AllByRecursion (λ x. P x × (p x ≡ true)) (filter p xs)
all_filter P p [] all = tt
all_filter P p (x ∷ xs) all = go (p x) refl (all_filter P p xs all.1)
  where
    go : (b : Bool) → p x ≡ b → AllByRecursion (λ y. P y × (p y ≡ true)) (filter p xs) → AllByRecursion (λ y. P y × (p y ≡ true)) (if b then x ∷ filter p xs else filter p xs)
    go true i rest = ((all.0, i), rest)
    go false i rest = rest

pub all_once : (P : List ℕ → Type 0) (ns : List (List ℕ)) → AllByRecursion P ns → AllByRecursion P (once_each ns)
all_once P [] all = tt
all_once P (n ∷ ns) all = (all.0, all_as (λ m. P m × (not (bytes_eq m n) ≡ true)) P (λ m b. b.0) (filter (λ m. not (bytes_eq m n)) (once_each ns)) (all_filter P (λ m. not (bytes_eq m n)) (once_each ns) (all_once P ns all.1)))

-- ---- in order

all_put : {A : Type 0} (P : A → Type 0) (before : A → A → Bool) (x : A) (ys : List A) → P x → AllByRecursion P ys → AllByRecursion P (put_in before x ys)
all_put P before x [] p all = (p, tt)
all_put P before x (y ∷ ys) p all = go (before y x) (all_put P before x ys p all.1)
  where
    go : (b : Bool) → AllByRecursion P (put_in before x ys) → AllByRecursion P (if b then y ∷ put_in before x ys else x ∷ y ∷ ys)
    go true rest = (all.0, rest)
    go false rest = (p, all)

pub all_in_order : {A : Type 0} (P : A → Type 0) (before : A → A → Bool) (xs : List A) → AllByRecursion P xs → AllByRecursion P (in_order before xs)
all_in_order P before [] all = tt
all_in_order P before (x ∷ xs) all = all_put P before x (in_order before xs) all.0 (all_in_order P before xs all.1)

pub bytes_differ : (a b : List ℕ) → bytes_eq a b ≡ false → bytes_eq b a ≡ false
bytes_differ a b e = go (bytes_eq b a) refl
  where
    go : (c : Bool) → bytes_eq b a ≡ c → bytes_eq b a ≡ false
    go false i = i
    go true i = absurd (true≢false (sym ((bytes_eq-Decides a b).1 (sym ((bytes_eq-Decides b a).0 i))) ∙ e))

distinct_put : (before : List ℕ → List ℕ → Bool) (x : List ℕ) (ys : List (List ℕ)) → AllByRecursion (λ y. bytes_eq x y ≡ false) ys → IsDistinct bytes_eq ys → IsDistinct bytes_eq (put_in before x ys)
unfolding IsDistinct
distinct_put before x [] apart d = (tt, tt)
distinct_put before x (y ∷ ys) apart d = go (before y x) (distinct_put before x ys apart.1 d.1)
  where
    go : (b : Bool) → IsDistinct bytes_eq (put_in before x ys) → IsDistinct bytes_eq (if b then y ∷ put_in before x ys else x ∷ y ∷ ys)
    go true rest = (all_put (λ z. bytes_eq y z ≡ false) before x ys (bytes_differ x y apart.0) d.0, rest)
    go false rest = (apart, d)

pub distinct_in_order : (before : List ℕ → List ℕ → Bool) (xs : List (List ℕ)) → IsDistinct bytes_eq xs → IsDistinct bytes_eq (in_order before xs)
unfolding IsDistinct
distinct_in_order before [] d = tt
distinct_in_order before (x ∷ xs) d = distinct_put before x (in_order before xs) (all_in_order (λ y. bytes_eq x y ≡ false) before xs d.0) (distinct_in_order before xs d.1)
