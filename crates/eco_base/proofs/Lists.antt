-- Lists by their places
use Rattle.std.proofs.Common.{◌≡◌, ℕ, zero, suc, ◌+◌, Bool, true, false, cond, ◌&&◌, List, [], ◌∷◌, ◌++◌, map, take, get_or, Option, Some, None, refl, sym, ap, ◌∙◌, slice_get, add-zero, inl, inr, if◌then◌else◌, true≢false}
use Rattle.std.specs.Prelude.{count_by}
use Rattle.std.specs.Option.{option_map, option_to_list, unwrap_or}
use Rattle.std.specs.List.{filter, list_all}
use Rattle.std.proofs.lemmas.Bool.{and_parts}
use Rattle.std.proofs.lemmas.Option.{slice_get_within, get_or_from_slice_get, slice_get-map}
use Rattle.std.proofs.lemmas.List.{take_more, map-append}
use Rattle.std.proofs.lemmas.List.Folds.{list_all-append}
use Rattle.std.proofs.lemmas.List.Sums.{count_by_more_yes, count_by_more_no}
use Rattle.std.proofs.lemmas.List.Elements.{filter-append}
use Rattle.eco_net.specs.Netlist.{Name}
use Rattle.eco_net.specs.Listing.{Listing, net_names, net_name}
use Rattle.eco_net.proofs.Basics.{Has, same_Some, not_None}

-- what stands at a place, by a function of it
pub row_at : {A B : Type 0} (f : A → B) (o : Option A) (b : B) → option_map f o ≡ Some b → (x : A) × (o ≡ Some x) × (f x ≡ b)
row_at f None b e = absurd (not_None (sym e))
row_at f (Some x) b e = (x, refl, same_Some e)

pub map_twice : {A B C : Type 0} (g : B → C) (f : A → B) (xs : List A) → map g (map f xs) ≡ map (λ x. g (f x)) xs
map_twice g f [] = refl
map_twice g f (x ∷ xs) = ap (λ ys. g (f x) ∷ ys) (map_twice g f xs)

pub more : {A : Type 0} (xs : List A) (i : ℕ) (x : A) → slice_get xs i ≡ Some x → take (i + 1) xs ≡ take i xs ++ x ∷ []
more xs i x e = take_more xs i x (slice_get_within xs i x e) ∙ ap (λ y. take i xs ++ y ∷ []) (get_or_from_slice_get xs i x x e)

pub map_more : {A B : Type 0} (f : A → B) (xs : List A) (i : ℕ) (b : B) → option_map f (slice_get xs i) ≡ Some b → map f (take (i + 1) xs) ≡ map f (take i xs) ++ b ∷ []
map_more f xs i b e =
    let w = row_at f (slice_get xs i) b e in
    ap (map f) (more xs i w.0 w.1) ∙ map-append f (take i xs) (w.0 ∷ []) ∙ ap (λ y. map f (take i xs) ++ y ∷ []) w.2

pub count_more : {A : Type 0} (p : A → Bool) (xs : List A) (i : ℕ) (b : Bool) → option_map p (slice_get xs i) ≡ Some b → count_by p (take (i + 1) xs) ≡ count_by p (take i xs) + cond b 1 0
count_more {A = A} p xs i b e =
    let w = row_at p (slice_get xs i) b e in
    go b w.0 w.1 (ap p (get_or_from_slice_get xs i w.0 w.0 w.1) ∙ w.2)
  where
    go : (b : Bool) (x : A) → slice_get xs i ≡ Some x → p (get_or xs i x) ≡ b → count_by p (take (i + 1) xs) ≡ count_by p (take i xs) + cond b 1 0
    go true x f h = count_by_more_yes p xs i x (slice_get_within xs i x f) h
    go false x f h = count_by_more_no p xs i x (slice_get_within xs i x f) h ∙ sym (add-zero (count_by p (take i xs)))

pub filter_more : {A B : Type 0} (g : A → B) (p : A → Bool) (xs : List A) (i : ℕ) (x : A) → slice_get xs i ≡ Some x → map g (filter p (take (i + 1) xs)) ≡ map g (filter p (take i xs)) ++ map g (filter p (option_to_list (slice_get xs i)))
filter_more g p xs i x e =
    ap (λ ys. map g (filter p ys)) (more xs i x e)
    ∙ ap (map g) (filter-append p (take i xs) (x ∷ []))
    ∙ map-append g (filter p (take i xs)) (filter p (x ∷ []))
    ∙ ap (λ o. map g (filter p (take i xs)) ++ map g (filter p (option_to_list o))) (sym e)

-- ---- all of a list

pub all_at : {A : Type 0} (f : A → Bool) (xs : List A) (i : ℕ) (x : A) → list_all f xs ≡ true → slice_get xs i ≡ Some x → f x ≡ true
all_at f [] i x h e = absurd (not_None (sym e))
all_at f (y ∷ ys) zero x h e = ap f (sym (same_Some e)) ∙ (and_parts (f y) (list_all f ys) h).0
all_at f (y ∷ ys) (suc i) x h e = all_at f ys i x (and_parts (f y) (list_all f ys) h).1 e

pub not_all : {A : Type 0} (f : A → Bool) (xs : List A) (i : ℕ) (x : A) → slice_get xs i ≡ Some x → f x ≡ false → list_all f xs ≡ false
not_all {A = A} f xs i x e h = go (list_all f xs) refl
  where
    go : (b : Bool) → list_all f xs ≡ b → b ≡ false
    go false s = refl
    go true s = absurd (true≢false (sym (all_at f xs i x s e) ∙ h))

pub all_more : {A : Type 0} (f : A → Bool) (xs : List A) (i : ℕ) (x : A) → slice_get xs i ≡ Some x → f x ≡ true → list_all f (take i xs) ≡ true → list_all f (take (i + 1) xs) ≡ true
all_more f xs i x e h a =
    ap (list_all f) (more xs i x e)
    ∙ list_all-append f (take i xs) (x ∷ [])
    ∙ ap (λ b. b && list_all f (x ∷ [])) a
    ∙ ap (λ b. b && true) h

-- ---- names of nets

pub net_named : (L : Listing) (n : ℕ) (name : Name) → slice_get (net_names L) n ≡ Some name → net_name L.nets n ≡ name
net_named L n name e = ap (λ o. unwrap_or o []) (sym (slice_get-map (λ r. r.name) L.nets n) ∙ e)

-- ---- mapped and filtered lists

pub filter_mapped : {A B : Type 0} (f : A → B) (P : B → Bool) (Q : A → Bool) (xs : List A) → ((x : A) → Has xs x → P (f x) ≡ Q x) → map f (filter Q xs) ≡ filter P (map f xs)
filter_mapped f P Q [] e = refl
filter_mapped f P Q (x ∷ xs) e = at (filter_mapped f P Q xs (λ y h. e y (inr h))) (Q x) ∙ ap (λ b. if b then f x ∷ filter P (map f xs) else filter P (map f xs)) (sym (e x (inl refl)))
  where
    at : map f (filter Q xs) ≡ filter P (map f xs) → (b : Bool) → map f (if b then x ∷ filter Q xs else filter Q xs) ≡ (if b then f x ∷ filter P (map f xs) else filter P (map f xs))
    at rest true = ap (λ ys. f x ∷ ys) rest
    at rest false = rest

pub same_tail : {A : Type 0} {x y : A} {xs ys : List A} → x ∷ xs ≡ y ∷ ys → xs ≡ ys
same_tail {A = A} {xs = xs} e = ap rest e
  where
    rest : List A → List A
    rest [] = xs
    rest (z ∷ zs) = zs

pub not_nil : {A : Type 0} {x : A} {xs : List A} → x ∷ xs ≡ [] → ⊥
not_nil e = cc

pub nil_not : {A : Type 0} {x : A} {xs : List A} → [] ≡ x ∷ xs → ⊥
nil_not e = cc
