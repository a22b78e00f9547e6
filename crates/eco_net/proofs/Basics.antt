-- Options, names, maps by names, and lists
use Rattle.std.specs.List.{Contains}
use Rattle.std.proofs.Common.{zero, suc, arith, ◌≡◌, ◌≢◌, Bool, true, false, cond, List, [], ◌∷◌, ◌++◌, map, Option, Some, None, refl, sym, ap, ◌∙◌, inl, inr, ⊎_elim, ◌⊎◌, true≢false, is_eq}
use Rattle.std.specs.Ordering.{eq_by_cmp}
use Rattle.std.specs.Cmp.{Equal-is, tied_itself}
use Rattle.std.specs.Cmp.Lexicographic.{nat_list_cmp_total}
use Rattle.std.specs.FinMap.{FinMap, get, insert, entries, find, get-insert, get-entries, keys}
use Rattle.std.proofs.lemmas.Map.Lookups.{exact_bytes}
use Rattle.eco_net.specs.Netlist.{Name, name_cmp}
pub use Rattle.eco_net.specs.Among.{Has}

-- ---- lists

pub contains_from_has : {A : Type 0} (xs : List A) (x : A) → Has xs x → Contains xs x
contains_from_has [] x h = absurd h
contains_from_has (y ∷ ys) x (inl e) = (0, omega arith, e)
contains_from_has (y ∷ ys) x (inr h) = let r = contains_from_has ys x h in (suc r.0, omega (arith, r.1), r.2)

pub has_from_contains : {A : Type 0} (xs : List A) (x : A) → Contains xs x → Has xs x
has_from_contains [] x c = absurd (omega (arith, c.1))
has_from_contains (y ∷ ys) x (zero, l, e) = inl e
has_from_contains (y ∷ ys) x (suc k, l, e) = inr (has_from_contains ys x (k, omega (arith, l), e))

-- ---- options

pub same_Some : {A : Type 0} {x y : A} → Some x ≡ Some y → x ≡ y
same_Some e = cc

pub not_None : {A : Type 0} {x : A} → Some x ≡ None → ⊥
not_None e = cc

pub same_head : {A : Type 0} {x y : A} {xs ys : List A} → x ∷ xs ≡ y ∷ ys → x ≡ y
same_head e = cc

-- ---- names

pub same_of_cmp : (a b : Name) → eq_by_cmp name_cmp a b ≡ true → a ≡ b
same_of_cmp a b e = exact_bytes a b ((Equal-is (name_cmp a b)).0 e)

pub cmp_itself : (a : Name) → eq_by_cmp name_cmp a a ≡ true
cmp_itself a = ap is_eq (tied_itself nat_list_cmp_total a)

pub cmp_apart : (a b : Name) → a ≢ b → eq_by_cmp name_cmp a b ≡ false
cmp_apart a b n = go (eq_by_cmp name_cmp a b) refl
  where
    go : (t : Bool) → eq_by_cmp name_cmp a b ≡ t → t ≡ false
    go true e = absurd (n (same_of_cmp a b e))
    go false e = refl

pub same_name : (a b : Name) → (a ≡ b) ⊎ (a ≢ b)
same_name a b = go (eq_by_cmp name_cmp a b) refl
  where
    go : (t : Bool) → eq_by_cmp name_cmp a b ≡ t → (a ≡ b) ⊎ (a ≢ b)
    go true e = inl (same_of_cmp a b e)
    go false e = inr (λ s. true≢false (sym (cmp_itself b) ∙ ap (λ x. eq_by_cmp name_cmp x b) (sym s) ∙ e))

-- ---- maps

pub get_same : {X : Type 0} (m : FinMap name_cmp X) (k : Name) (v : X) → get (insert m k v) k ≡ Some v
get_same m k v = get-insert nat_list_cmp_total m k v k ∙ ap (λ b. cond b (Some v) (get m k)) (cmp_itself k)

pub get_other : {X : Type 0} (m : FinMap name_cmp X) (k : Name) (v : X) (q : Name) → q ≢ k → get (insert m k v) q ≡ get m q
get_other m k v q n = get-insert nat_list_cmp_total m k v q ∙ ap (λ b. cond b (Some v) (get m q)) (cmp_apart q k n)

-- past an entry of another key
pub find_rest : {X : Type 0} {o : Option X} (d : Name × X) (es : List (Name × X)) (q : Name) → q ≢ d.0 → find name_cmp q (d ∷ es) ≡ o → find name_cmp q es ≡ o
find_rest d es q n e = sym (ap (λ b. cond b (Some d.1) (find name_cmp q es)) (cmp_apart q d.0 n)) ∙ e

-- at its own key
pub find_first : {X : Type 0} {o : Option X} (d : Name × X) (es : List (Name × X)) (q : Name) → q ≡ d.0 → find name_cmp q (d ∷ es) ≡ o → Some d.1 ≡ o
find_first d es q s e = sym (ap (λ b. cond b (Some d.1) (find name_cmp q es)) (ap (λ x. eq_by_cmp name_cmp x d.0) s ∙ cmp_itself d.0)) ∙ e

pub has_found : {X : Type 0} (es : List (Name × X)) (q : Name) (x : X) → find name_cmp q es ≡ Some x → Has (map (λ e. e.0) es) q
has_found [] q x e = absurd (not_None (sym e))
has_found {X = X} (d ∷ es) q x e =
    ⊎_elim (λ s. inl (sym s)) (λ n. inr (has_found es q x (find_rest d es q n e))) (same_name q d.0)

pub has_key : {X : Type 0} (m : FinMap name_cmp X) (q : Name) (x : X) → get m q ≡ Some x → Has (keys m) q
has_key m q x e = has_found (entries m) q x (sym (get-entries m q) ∙ e)

-- ---- lists

pub has_append_left : {A : Type 0} (xs ys : List A) (z : A) → Has xs z → Has (xs ++ ys) z
has_append_left [] ys z h = absurd h
has_append_left (x ∷ xs) ys z (inl e) = inl e
has_append_left (x ∷ xs) ys z (inr h) = inr (has_append_left xs ys z h)

pub has_append_right : {A : Type 0} (xs ys : List A) (z : A) → Has ys z → Has (xs ++ ys) z
has_append_right [] ys z h = h
has_append_right (x ∷ xs) ys z h = inr (has_append_right xs ys z h)

pub has_map : {A B : Type 0} (f : A → B) (xs : List A) (z : A) → Has xs z → Has (map f xs) (f z)
has_map f [] z h = absurd h
has_map f (x ∷ xs) z (inl e) = inl (ap f e)
has_map f (x ∷ xs) z (inr h) = inr (has_map f xs z h)

pub map_agree : {A B : Type 0} (f g : A → B) (xs : List A) → ((x : A) → Has xs x → f x ≡ g x) → map f xs ≡ map g xs
map_agree f g [] h = refl
map_agree f g (x ∷ xs) h = λ i. h x (inl refl) i ∷ map_agree f g xs (λ y k. h y (inr k)) i

pub has_of_map : {A B : Type 0} (f : A → B) (xs : List A) (y : B) → Has (map f xs) y → (x : A) × Has xs x × (f x ≡ y)
has_of_map f [] y h = absurd h
has_of_map f (x ∷ xs) y (inl e) = (x, inl refl, e)
has_of_map f (x ∷ xs) y (inr h) = let r = has_of_map f xs y h in (r.0, inr r.1, r.2)
