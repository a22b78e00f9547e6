-- Names of patch gates, and small facts of lists
use Rattle.std.proofs.Common.{◌≡◌, ◌≢◌, false, List, [], ◌∷◌, ◌++◌, map, Some, None, Option, refl, sym, ap, ap₂, ◌∙◌, inl, inr, ⊎_elim, ◌⊎◌, true≢false}
use Rattle.std.specs.List.{IsDistinct, AllByRecursion}
use Rattle.std.specs.Ordering.{eq_by_cmp}
use Rattle.eco_net.specs.Netlist.{Name, name_cmp}
use Rattle.eco_net.proofs.Basics.{Has, same_head, cmp_itself, has_map}
use Rattle.eco_patch_laws.specs.Insertion.{patch_name}

pub same_tail : {A : Type 0} {x y : A} {xs ys : List A} → x ∷ xs ≡ y ∷ ys → xs ≡ ys
same_tail e = cc

pub one_gate_name : (label a b : Name) → patch_name label a ≡ patch_name label b → a ≡ b
one_gate_name [] a b e = same_tail e
one_gate_name (x ∷ label) a b e = one_gate_name label a b (same_tail e)

pub has_blank : (label a : Name) → Has (patch_name label a) 32
has_blank [] a = inl refl
has_blank (x ∷ label) a = inr (has_blank label a)

pub one_label : (l m a b : Name) → (Has l 32 → ⊥) → (Has m 32 → ⊥) → patch_name l a ≡ patch_name m b → l ≡ m
one_label [] [] a b h i e = refl
one_label [] (y ∷ m) a b h i e = absurd (i (inl (sym (same_head e))))
one_label (x ∷ l) [] a b h i e = absurd (h (inl (same_head e)))
one_label (x ∷ l) (y ∷ m) a b h i e = ap₂ {C = Name} (λ z zs. z ∷ zs) (same_head e) (one_label l m a b (λ j. h (inr j)) (λ j. i (inr j)) (same_tail e))

pub has_of_append : {A : Type 0} (xs ys : List A) (z : A) → Has (xs ++ ys) z → Has xs z ⊎ Has ys z
has_of_append [] ys z h = inr h
has_of_append (x ∷ xs) ys z (inl e) = inl (inl e)
has_of_append (x ∷ xs) ys z (inr h) = ⊎_elim (λ i. inl (inr i)) (λ i. inr i) (has_of_append xs ys z h)

pub missing : {X : Type 0} (o : Option X) → ((x : X) → o ≡ Some x → ⊥) → o ≡ None
missing None h = refl
missing (Some x) h = absurd (h x refl)

-- ---- distinct names

pub not_first : (n m : Name) (ns : List Name) → AllByRecursion (λ y. eq_by_cmp name_cmp n y ≡ false) ns → Has ns m → n ≢ m
not_first n m (x ∷ ns) a (inl e) s = true≢false (sym (cmp_itself m) ∙ ap (λ z. eq_by_cmp name_cmp z m) (sym s) ∙ ap (eq_by_cmp name_cmp n) (sym e) ∙ a.0)
not_first n m (x ∷ ns) a (inr h) s = not_first n m ns a.1 h s
not_first n m [] a h s = absurd h

-- where names are distinct, one name is one element's
pub one_of_name : {A : Type 0} (name : A → Name) (xs : List A) (x y : A) → IsDistinct (eq_by_cmp name_cmp) (map name xs) → Has xs x → Has xs y → name x ≡ name y → x ≡ y
unfolding IsDistinct
one_of_name name [] x y d h i e = absurd h
one_of_name name (z ∷ xs) x y d (inl s) (inl t) e = sym s ∙ t
one_of_name name (z ∷ xs) x y d (inl s) (inr i) e = absurd (not_first (name z) (name y) (map name xs) d.0 (has_map name xs y i) (ap name s ∙ e))
one_of_name name (z ∷ xs) x y d (inr h) (inl t) e = absurd (not_first (name z) (name x) (map name xs) d.0 (has_map name xs x h) (ap name t ∙ sym e))
one_of_name name (z ∷ xs) x y d (inr h) (inr i) e = one_of_name name xs x y d.1 h i e
