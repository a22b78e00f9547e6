-- Lists read by `get_elem?`, and beginnings of lists.
use Rattle.std.proofs.Common.{◌≡◌, ◌≢◌, ℕ, zero, suc, ◌+◌, ◌<◌, Option, Some, List, [], ◌∷◌, ◌++◌, map, length, get_or, set, drop, sym, refl, ap, subst, ◌∙◌, ◌⊎◌, ⊎_elim, inl, inr, arith, append_assoc}
use mathlib.Core.Option.{some, some-injective, some-ne-none}
use mathlib.Core.List.{IsPrefix}
use lib.ListN.{get_elem?, length-map}
use Rattle.std.specs.List.{sum_by, Contains}
use Rattle.std.proofs.lemmas.List.{map-set}
use Rattle.std.proofs.lemmas.List.Sums.{sum_by-set}
use Rattle.std.proofs.Math.Seq.{drop-append_seam}
use Rattle.atomic_table.proofs.Lists.{at_set, at_last, at_map, set_again}

module _ {A : Type 0} where
  pub at_below : (l : List A) (i : ℕ) (a : A) → get_elem? l i ≡ some a → i < length l
  at_below [] i a e = absurd (some-ne-none a (sym e))
  at_below (x ∷ xs) zero a e = omega arith
  at_below (x ∷ xs) (suc i) a e = let h = at_below xs i a e in omega arith

  pub at_or : (l : List A) (i : ℕ) (a d : A) → get_elem? l i ≡ some a → get_or l i d ≡ a
  at_or [] i a d e = absurd (some-ne-none a (sym e))
  at_or (x ∷ xs) zero a d e = some-injective x a e
  at_or (x ∷ xs) (suc i) a d e = at_or xs i a d e

  pub at_one : (l : List A) (i : ℕ) (a b : A) → get_elem? l i ≡ some a → get_elem? l i ≡ some b → a ≡ b
  at_one l i a b p q = some-injective a b (sym p ∙ q)

  -- a sum after a change of one element
  pub sum_at : (f : A → ℕ) (l : List A) (i : ℕ) (a b : A) → get_elem? l i ≡ some a → sum_by f (set l i b) + f a ≡ sum_by f l + f b
  sum_at f l i a b e = subst (λ (x : A). sum_by f (set l i b) + f x ≡ sum_by f l + f b) (at_or l i a a e) (sum_by-set f l i b a (at_below l i a e))

  -- f of each is as before, where it is of the one that changed
  pub map_kept : {B : Type 0} (f : A → B) (l : List A) (i : ℕ) (a b : A) → get_elem? l i ≡ some a → f b ≡ f a → map f (set l i b) ≡ map f l
  map_kept f l i a b e same = map-set f l i b ∙ (ap (λ x. set (map f l) i x) same ∙ set_again (map f l) i (f a) (at_map f l i a e))

  -- what holds of each after a change of one
  pub each_set : (K : ℕ → A → Type 0) (l : List A) (i : ℕ) (b : A) → K i b → ((j : ℕ) (d : A) → j ≢ i → get_elem? l j ≡ some d → K j d) → (j : ℕ) (d : A) → get_elem? (set l i b) j ≡ some d → K j d
  each_set K l i b here others j d e = ⊎_elim (λ (t : (j ≡ i) × (b ≡ d)). subst (λ (x : ℕ × A). K x.0 x.1) (λ k. (sym t.0 k, t.1 k)) here)
      (λ (t : (j ≢ i) × (get_elem? l j ≡ some d)). others j d t.0 t.1) (at_set l i j b d e)

  pub prefix_self : (xs : List A) → IsPrefix xs xs
  prefix_self [] = ([], refl)
  prefix_self (x ∷ xs) = (let r = prefix_self xs in r.0, ap (λ ys. x ∷ ys) (prefix_self xs).1)

  pub prefix_trans : (xs ys zs : List A) → IsPrefix xs ys → IsPrefix ys zs → IsPrefix xs zs
  prefix_trans xs ys zs p q = (p.0 ++ q.0, sym (append_assoc xs p.0 q.0) ∙ (ap (λ w. w ++ q.0) p.1 ∙ q.1))

  -- a list that begins with another is that and the rest
  pub prefix_rest : (xs ys : List A) → IsPrefix xs ys → xs ++ drop (length xs) ys ≡ ys
  prefix_rest xs ys p = subst (λ (zs : List A). xs ++ drop (length xs) zs ≡ zs) p.1 (ap (λ z. xs ++ z) (drop-append_seam xs p.0))

  -- what stands in a list with one more element, and where
  pub at_end : (l : List A) (a b : A) (j : ℕ) → get_elem? (l ++ a ∷ []) j ≡ some b → (get_elem? l j ≡ some b) ⊎ ((j ≡ length l) × (a ≡ b))
  at_end [] a b zero e = inr (refl, some-injective a b e)
  at_end [] a b (suc j) e = absurd (some-ne-none b (sym e))
  at_end (x ∷ xs) a b zero e = inl e
  at_end (x ∷ xs) a b (suc j) e = ⊎_elim (λ t. inl t) (λ t. inr (ap suc t.0, t.1)) (at_end xs a b j e)

  -- the last of a list
  pub at_top : (l xs : List A) (x : A) → l ≡ xs ++ x ∷ [] → get_elem? l (length xs) ≡ some x
  at_top l xs x e = ap (λ z. get_elem? z (length xs)) e ∙ at_last xs x (length xs) refl

  pub at_unmap : {B : Type 0} (f : A → B) (l : List A) (j : ℕ) (b : B) → get_elem? (map f l) j ≡ some b → (a : A) × (get_elem? l j ≡ some a) × (f a ≡ b)
  at_unmap f [] j b e = absurd (some-ne-none b (sym e))
  at_unmap f (x ∷ xs) zero b e = (x, refl, some-injective (f x) b e)
  at_unmap f (x ∷ xs) (suc j) b e = at_unmap f xs j b e

  pub at_there : (l : List A) (j : ℕ) → j < length l → (a : A) × (get_elem? l j ≡ some a)
  at_there [] j h = absurd (omega arith)
  at_there (x ∷ xs) zero h = (x, refl)
  at_there (x ∷ xs) (suc j) h = at_there xs j (omega arith)

  -- what holds of each element and its place
  pub all_at : (K : ℕ → A → Type 0) (l : List A) → ((k : ℕ) (d : A) → k < length l → K k (get_or l k d)) → (k : ℕ) (a : A) → get_elem? l k ≡ some a → K k a
  all_at K l all k a e = subst (K k) (at_or l k a a e) (all k a (at_below l k a e))

  pub at_all : (K : ℕ → A → Type 0) (l : List A) → ((k : ℕ) (a : A) → get_elem? l k ≡ some a → K k a) → (k : ℕ) (d : A) → k < length l → K k (get_or l k d)
  at_all K l each k d low = let t = at_there l k low in subst (K k) (sym (at_or l k t.0 d t.1)) (each k t.0 t.1)

  pub at_cons : (K : A → Type 0) (a : A) (l : List A) → K a → ((k : ℕ) (b : A) → get_elem? l k ≡ some b → K b) → (k : ℕ) (b : A) → get_elem? (a ∷ l) k ≡ some b → K b
  at_cons K a l here there zero b e = subst K (some-injective a b e) here
  at_cons K a l here there (suc k) b e = there k b e

-- the element that has a value of f
pub at_value : {A : Type 0} (f : A → ℕ) (l : List A) (n : ℕ) → Contains (map f l) n → (k : ℕ) × (a : A) × (get_elem? l k ≡ some a) × (f a ≡ n)
at_value f l n has =
    let low : has.0 < length l = subst (λ m. has.0 < m) (length-map l f) has.1 in let t = at_there l has.0 low in
    (has.0, t.0, t.1, sym (at_or (map f l) has.0 (f t.0) n (at_map f l has.0 t.0 t.1)) ∙ has.2)

module _ {T : Type 0} where
  abbrev first_or : T → List (ℕ × Option T) → T
  first_or d ((k, Some y) ∷ xs) = y
  first_or d xs = d

  -- a seat carries one value
  pub one_carried : (c : List (ℕ × Option T)) (y z : T) → c ≡ (0, Some y) ∷ [] → c ≡ (0, Some z) ∷ [] → y ≡ z
  one_carried c y z p q = ap (first_or y) (sym p ∙ q)
