-- Lists in order: of the lists with the same values, one ascends.
use Rattle.std.specs.List.{AllByRecursion, filter}
use Rattle.std.specs.List.Sorted.{IsSortedBy}
use Rattle.std.specs.Cmp.{IsStrictWeakOrder}
use Rattle.std.proofs.Common.{◌≡◌, ℕ, zero, suc, ◌+◌, ◌<◌, ◌≤◌, Bool, true, false, List, [], ◌∷◌, length, map, sum_by, get_or, refl, ap, sym, ◌∙◌, arith, if◌then◌else◌}
use Rattle.std.proofs.lemmas.List.Sums.{sum_by-cons}
use Rattle.std.proofs.lemmas.List.Sorted.{sorted_far}
use Rattle.eco_issued_laws.specs.Changes.{put_in, in_order}

-- the same values, each as often
abbrev pub SameSums : {A : Type 0} → List A → List A → Type 0
SameSums {A} xs ys = (f : A → ℕ) → sum_by f xs ≡ sum_by f ys

-- no value stands before an earlier one
abbrev pub Ascends : {A : Type 0} → (A → A → Bool) → List A → Type 0
Ascends before [] = Unit {0}
Ascends before (x ∷ xs) = AllByRecursion (λ y. before y x ≡ false) xs × Ascends before xs

-- an order in which different values compare
pub record IsLinear {A : Type 0} (before : A → A → Bool) : Type 0 where
  pub weak : IsStrictWeakOrder before
  pub same : (x y : A) → before x y ≡ false → before y x ≡ false → x ≡ y

module _ {A : Type 0} (before : A → A → Bool) where
  all_at : (P : A → Type 0) (xs : List A) → ((k : ℕ) (d : A) → k < length xs → P (get_or xs k d)) → AllByRecursion P xs
  all_at P [] h = tt
  all_at P (x ∷ xs) h = (h zero x (omega arith), all_at P xs (λ k d lt. h (suc k) d (omega arith)))

  ascends_far : (xs : List A) → ((i j : ℕ) (d : A) → i ≤ j → j < length xs → before (get_or xs j d) (get_or xs i d) ≡ false) → Ascends before xs
  ascends_far [] h = tt
  ascends_far (x ∷ xs) h = (all_at (λ y. before y x ≡ false) xs (λ k d lt. h zero (suc k) d (omega arith) (omega arith)), ascends_far xs (λ i j d le lt. h (suc i) (suc j) d (omega arith) (omega arith)))

  pub ascends_sorted : IsStrictWeakOrder before → (xs : List A) → IsSortedBy before xs → Ascends before xs
  ascends_sorted weak xs up = ascends_far xs (sorted_far before weak xs up)

  not_self : (b : Bool) → (b ≡ true → b ≡ false) → b ≡ false
  not_self true f = f refl
  not_self false f = refl

  pub itself : IsStrictWeakOrder before → (x : A) → before x x ≡ false
  itself weak x = not_self (before x x) (weak.one_way x x)

  abbrev is_before : A → A → ℕ
  is_before x y = if before y x then 1 else 0

  none_sum : (x : A) (ys : List A) → AllByRecursion (λ y. before y x ≡ false) ys → sum_by (is_before x) ys ≡ 0
  none_sum x [] all = refl
  none_sum x (y ∷ ys) all =
      let e = sum_by-cons (is_before x) y ys in
      let here : is_before x y ≡ 0 = ap (λ b. if b then 1 else 0) all.0 in
      let rest = none_sum x ys all.1 in
      omega (arith, e, here, rest)

  zero_false : (b : Bool) (n : ℕ) → (if b then 1 else 0) + n ≡ 0 → b ≡ false
  zero_false true n e = absurd (omega (arith, e))
  zero_false false n e = refl

  not_before : IsStrictWeakOrder before → (x y : A) (xs ys : List A) → Ascends before (y ∷ ys) → SameSums (x ∷ xs) (y ∷ ys) → before x y ≡ false
  not_before weak x y xs ys up same =
      zero_false (before x y) (sum_by (is_before y) xs)
      (sym (sum_by-cons (is_before y) x xs) ∙ same (is_before y) ∙ none_sum y (y ∷ ys) (itself weak y, up.0))

  pub same_lists : IsLinear before → (xs ys : List A) → Ascends before xs → Ascends before ys → SameSums xs ys → xs ≡ ys
  same_lists l [] [] up down same = refl
  same_lists l [] (y ∷ ys) up down same =
      let e = same (λ _. 1) in
      let more = sum_by-cons (λ _. 1) y ys in
      absurd (omega (arith, e, more))
  same_lists l (x ∷ xs) [] up down same =
      let e = same (λ _. 1) in
      let more = sum_by-cons (λ _. 1) x xs in
      absurd (omega (arith, e, more))
  same_lists l (x ∷ xs) (y ∷ ys) up down same =
      let a = not_before l.weak x y xs ys down same in
      let b = not_before l.weak y x ys xs up (λ f. sym (same f)) in
      let p : x ≡ y = l.same x y a b in
      ap (λ z. z ∷ xs) p ∙ ap (λ zs. y ∷ zs) (same_lists l xs ys up.1 down.1
      (λ f. let s = same f in let c = sum_by-cons f x xs in let e = sum_by-cons f y ys in let q : f x ≡ f y = ap f p in omega (arith, s, c, e, q)))

  all_put : (P : A → Type 0) (x : A) (ys : List A) → P x → AllByRecursion P ys → AllByRecursion P (put_in before x ys)
  all_put P x [] here all = (here, tt)
  all_put P x (y ∷ ys) here all = at (all_put P x ys here all.1) (before y x)
    where
      at : AllByRecursion P (put_in before x ys) → (b : Bool) → AllByRecursion P (if b then y ∷ put_in before x ys else x ∷ y ∷ ys)
      at rest true = (all.0, rest)
      at rest false = (here, all)

  all_chain : IsStrictWeakOrder before → (x y : A) (ys : List A) → before y x ≡ false → AllByRecursion (λ z. before z y ≡ false) ys → AllByRecursion (λ z. before z x ≡ false) ys
  all_chain weak x y [] e all = tt
  all_chain weak x y (z ∷ ys) e all = (weak.chain z y x all.0 e, all_chain weak x y ys e all.1)

  put_ascends : IsStrictWeakOrder before → (x : A) (ys : List A) → Ascends before ys → Ascends before (put_in before x ys)
  put_ascends weak x [] up = (tt, tt)
  put_ascends weak x (y ∷ ys) up = at (put_ascends weak x ys up.1) (before y x) refl
    where
      at : Ascends before (put_in before x ys) → (b : Bool) → before y x ≡ b → Ascends before (if b then y ∷ put_in before x ys else x ∷ y ∷ ys)
      at rest true e = (all_put (λ z. before z y ≡ false) x ys (weak.one_way y x e) up.0, rest)
      at rest false e = ((e, all_chain weak x y ys e up.0), up)

  order_ascends : IsStrictWeakOrder before → (xs : List A) → Ascends before (in_order before xs)
  order_ascends weak [] = tt
  order_ascends weak (x ∷ xs) = put_ascends weak x (in_order before xs) (order_ascends weak xs)

  put_sums : (f : A → ℕ) (x : A) (ys : List A) → sum_by f (put_in before x ys) ≡ f x + sum_by f ys
  put_sums f x [] = sum_by-cons f x []
  put_sums f x (y ∷ ys) = at (put_sums f x ys) (before y x)
    where
      at : sum_by f (put_in before x ys) ≡ f x + sum_by f ys → (b : Bool) → sum_by f (if b then y ∷ put_in before x ys else x ∷ y ∷ ys) ≡ f x + sum_by f (y ∷ ys)
      at rest true = let a = sum_by-cons f y (put_in before x ys) in let b = sum_by-cons f y ys in omega (arith, a, b, rest)
      at rest false = sum_by-cons f x (y ∷ ys)

  order_sums : (f : A → ℕ) (xs : List A) → sum_by f (in_order before xs) ≡ sum_by f xs
  order_sums f [] = refl
  order_sums f (x ∷ xs) = put_sums f x (in_order before xs) ∙ ap (λ n. f x + n) (order_sums f xs) ∙ sym (sum_by-cons f x xs)

  -- a list that ascends is the sorted one of all lists with the same values
  pub in_order_is : IsLinear before → (xs ys : List A) → Ascends before ys → SameSums xs ys → in_order before xs ≡ ys
  in_order_is l xs ys up same = same_lists l (in_order before xs) ys (order_ascends l.weak xs) up (λ f. order_sums f xs ∙ same f)

-- ---- the same values after a map or a filter

pub map_sums : {A B : Type 0} (g : A → B) (f : B → ℕ) (xs : List A) → sum_by f (map g xs) ≡ sum_by (λ x. f (g x)) xs
map_sums g f [] = refl
map_sums g f (x ∷ xs) = sum_by-cons f (g x) (map g xs) ∙ ap (λ n. f (g x) + n) (map_sums g f xs) ∙ sym (sum_by-cons (λ x. f (g x)) x xs)

pub filter_sums : {A : Type 0} (p : A → Bool) (f : A → ℕ) (xs : List A) → sum_by f (filter p xs) ≡ sum_by (λ x. if p x then f x else 0) xs
filter_sums p f [] = refl
filter_sums p f (x ∷ xs) = at (filter_sums p f xs) (p x) ∙ sym (sum_by-cons (λ y. if p y then f y else 0) x xs)
  where
    at : sum_by f (filter p xs) ≡ sum_by (λ y. if p y then f y else 0) xs → (b : Bool) → sum_by f (if b then x ∷ filter p xs else filter p xs) ≡ (if b then f x else 0) + sum_by (λ y. if p y then f y else 0) xs
    at rest true = sum_by-cons f x (filter p xs) ∙ ap (λ n. f x + n) rest
    at rest false = omega (arith, rest)

pub same_map : {A B : Type 0} (g : A → B) (xs ys : List A) → SameSums xs ys → SameSums (map g xs) (map g ys)
same_map g xs ys same f = map_sums g f xs ∙ same (λ x. f (g x)) ∙ sym (map_sums g f ys)

pub same_filter : {A : Type 0} (p : A → Bool) (xs ys : List A) → SameSums xs ys → SameSums (filter p xs) (filter p ys)
same_filter p xs ys same f = filter_sums p f xs ∙ same (λ x. if p x then f x else 0) ∙ sym (filter_sums p f ys)

-- ---- order after a map or a filter

pub all_map : {A B : Type 0} (P : B → Type 0) (g : A → B) (xs : List A) → AllByRecursion (λ x. P (g x)) xs → AllByRecursion P (map g xs)
all_map P g [] all = tt
all_map P g (x ∷ xs) all = (all.0, all_map P g xs all.1)

pub all_filter : {A : Type 0} (P : A → Type 0) (p : A → Bool) (xs : List A) → AllByRecursion P xs → AllByRecursion P (filter p xs)
all_filter P p [] all = tt
all_filter P p (x ∷ xs) all = at (all_filter P p xs all.1) (p x)
  where
    at : AllByRecursion P (filter p xs) → (b : Bool) → AllByRecursion P (if b then x ∷ filter p xs else filter p xs)
    at rest true = (all.0, rest)
    at rest false = rest

pub ascends_filter : {A : Type 0} (before : A → A → Bool) (p : A → Bool) (xs : List A) → Ascends before xs → Ascends before (filter p xs)
ascends_filter before p [] up = tt
ascends_filter before p (x ∷ xs) up = at (ascends_filter before p xs up.1) (p x)
  where
    at : Ascends before (filter p xs) → (b : Bool) → Ascends before (if b then x ∷ filter p xs else filter p xs)
    at rest true = (all_filter (λ y. before y x ≡ false) p xs up.0, rest)
    at rest false = rest
