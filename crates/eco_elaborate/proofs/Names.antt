-- Tests of names by their bytes, and look-ups by names.
use Rattle.std.proofs.Common.{Option, ◌≡◌, ◌≢◌, Bool, true, false, cond, ◌||◌, List, [], ◌∷◌, map, Some, None, refl, sym, ap, ◌∙◌, inl, inr, ⊎_elim, ◌⊎◌}
use Rattle.std.specs.List.{list_any, find}
use Rattle.std.specs.Option.{option_map, option_or}
use Rattle.std.specs.Ordering.{eq_by_cmp}
use Rattle.std.specs.Str.{bytes_eq}
use Rattle.std.specs.FinMap as fin
use Rattle.std.proofs.lemmas.Bool.{cases_Bool, false_from_ne_true}
use Rattle.std.proofs.lemmas.Map.Text.{is_eq-slice_cmp}
use Rattle.std.proofs.lemmas.Slice.Eq.{bytes_eq-Decides}
use Rattle.eco_net.specs.Netlist.{Name, name_cmp}

pub same_name : (a b : Name) → bytes_eq a b ≡ true → a ≡ b
same_name a b e = (bytes_eq-Decides a b).0 e

pub is_name : (a b : Name) → a ≡ b → bytes_eq a b ≡ true
is_name a b e = (bytes_eq-Decides a b).1 e

pub other_name : (a b : Name) → a ≢ b → bytes_eq a b ≡ false
other_name a b n = false_from_ne_true _ (λ e. n (same_name a b e))

pub same_or_other : (a b : Name) → (a ≡ b) ⊎ (a ≢ b)
same_or_other a b = ⊎_elim (λ e. inl (same_name a b e)) (λ f. inr (λ s. absurd (apart (sym (is_name a b s) ∙ f)))) (cases_Bool (bytes_eq a b))
  where
    apart : true ≡ false → ⊥
    apart e = cc

-- the maps' test of names is that of their bytes
pub by_bytes : (a b : Name) → eq_by_cmp name_cmp a b ≡ bytes_eq a b
by_bytes a b = is_eq-slice_cmp a b

turned : (a b : Name) → bytes_eq a b ≡ bytes_eq b a
turned a b = ⊎_elim
    (λ e. is_name a b e ∙ sym (is_name b a (sym e)))
    (λ n. other_name a b n ∙ sym (other_name b a (λ e. n (sym e))))
    (same_or_other a b)

pub by_bytes_turned : (a b : Name) → eq_by_cmp name_cmp a b ≡ bytes_eq b a
by_bytes_turned a b = by_bytes a b ∙ turned a b

-- the first entry of a name, where each item gives one
pub found : {A X : Type 0} (key : A → Name) (f : A → X) (xs : List A) (q : Name) → fin.find name_cmp q (map (λ x. (key x, f x)) xs) ≡ option_map f (find (λ x. bytes_eq (key x) q) xs)
found key f [] q = refl
found {A = A} {X = X} key f (x ∷ xs) q =
    ap (λ b. cond b (Some (f x)) (fin.find name_cmp q (map {B = Name × X} (λ x. (key x, f x)) xs))) (by_bytes_turned q (key x))
    ∙ go (bytes_eq (key x) q) (found key f xs q)
  where
    go : (b : Bool) → fin.find name_cmp q (map {B = Name × X} (λ x. (key x, f x)) xs) ≡ option_map f (find (λ x. bytes_eq (key x) q) xs) →
        cond b (Some (f x)) (fin.find name_cmp q (map {B = Name × X} (λ x. (key x, f x)) xs)) ≡ option_map f (cond b (Some x) (find (λ x. bytes_eq (key x) q) xs))
    go true rest = refl
    go false rest = rest

-- where each entry's value hangs on its name alone
pub found_name : {X : Type 0} (f : Name → X) (ns : List Name) (q : Name) → fin.find name_cmp q (map (λ n. (n, f n)) ns) ≡ cond (list_any (λ n. bytes_eq n q) ns) (Some (f q)) None
found_name f [] q = refl
found_name {X = X} f (n ∷ ns) q =
    ap (λ b. cond b (Some (f n)) (fin.find name_cmp q (map {B = Name × X} (λ n. (n, f n)) ns))) (by_bytes_turned q n)
    ∙ go (bytes_eq n q) refl (found_name f ns q)
  where
    go : (b : Bool) → bytes_eq n q ≡ b → fin.find name_cmp q (map {B = Name × X} (λ n. (n, f n)) ns) ≡ cond (list_any (λ n. bytes_eq n q) ns) (Some (f q)) None →
        cond b (Some (f n)) (fin.find name_cmp q (map {B = Name × X} (λ n. (n, f n)) ns)) ≡ cond (b || list_any (λ n. bytes_eq n q) ns) (Some (f q)) None
    go true e rest = ap (λ m. Some (f m)) (same_name n q e)
    go false e rest = rest

pub any_mapped : {A B : Type 0} (test : B → Bool) (f : A → B) (xs : List A) → list_any test (map f xs) ≡ list_any (λ x. test (f x)) xs
any_mapped test f [] = refl
any_mapped test f (x ∷ xs) = ap (λ b. test (f x) || b) (any_mapped test f xs)

pub or_none : {A : Type 0} (o : Option A) → option_or o None ≡ o
or_none None = refl
or_none (Some x) = refl
