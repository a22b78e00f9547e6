-- Where nothing is found first.
use Rattle.std.proofs.Common.{◌≡◌, Bool, true, false, not, cond, ◌||◌, List, [], ◌∷◌, Option, Some, None, refl, sym, ap, ◌∙◌, subst, inl, inr, ⊎_elim, true≢false}
use Rattle.std.specs.List.{find, filter, list_any, IsDistinct, AllByRecursion}
use Rattle.std.specs.Ordering.{eq_by_cmp}
use Rattle.std.specs.Option.{option_map}
use Rattle.eco_net.specs.Netlist.{Name}
use Rattle.eco_net.proofs.Basics.{Has, not_None, same_of_cmp, cmp_itself}
use Rattle.std.specs.Str.{bytes_eq}
use Rattle.std.proofs.lemmas.Map.Text.{is_eq-slice_cmp}
use Rattle.eco_common.specs.NameBytes.{is_among}
use Rattle.eco_common.specs.Options.{first_some}
use Rattle.eco_net.specs.Netlist.{name_cmp}
use Rattle.eco_order_file.specs.Repeats.{first_again, first_twice}
use Rattle.eco_order.specs.Rules.{is_same}

pub first_none : {A : Type 0} (os : List (Option A)) → first_some os ≡ None → (x : Option A) → Has os x → x ≡ None
first_none [] e x h = absurd h
first_none (None ∷ os) e x (inl s) = sym s
first_none (None ∷ os) e x (inr h) = first_none os e x h
first_none (Some y ∷ os) e x h = absurd (not_None e)

pub mapped_none : {A B : Type 0} (f : A → B) (o : Option A) → option_map f o ≡ None → o ≡ None
mapped_none f None e = refl
mapped_none f (Some x) e = absurd (not_None e)

pub cond_none : {A : Type 0} (b : Bool) (x : A) (o : Option A) → cond b (Some x) o ≡ None → (b ≡ false) × (o ≡ None)
cond_none true x o e = absurd (not_None e)
cond_none false x o e = (refl, e)

pub none_found : {A : Type 0} (p : A → Bool) (xs : List A) → find p xs ≡ None → (x : A) → Has xs x → p x ≡ false
none_found p [] e x h = absurd h
none_found p (y ∷ ys) e x (inl s) = ap p (sym s) ∙ (cond_none (p y) y (find p ys) e).0
none_found p (y ∷ ys) e x (inr h) = none_found p ys (cond_none (p y) y (find p ys) e).1 x h

pub not_false : (b : Bool) → not b ≡ false → b ≡ true
not_false true e = refl
not_false false e = absurd (true≢false e)

pub or_false : (a b : Bool) → (a || b) ≡ false → (a ≡ false) × (b ≡ false)
or_false true b e = absurd (true≢false e)
or_false false b e = (refl, e)

pub true_not_false : {b : Bool} → b ≡ true → b ≡ false → ⊥
true_not_false e f = true≢false (sym e ∙ f)

pub none_any : {A : Type 0} (p : A → Bool) (xs : List A) → list_any p xs ≡ false → (x : A) → Has xs x → p x ≡ false
none_any p [] e x h = absurd h
none_any p (y ∷ ys) e x (inl s) = ap p (sym s) ∙ (or_false (p y) (list_any p ys) e).0
none_any p (y ∷ ys) e x (inr h) = none_any p ys (or_false (p y) (list_any p ys) e).1 x h

pub any_has : {A : Type 0} (p : A → Bool) (xs : List A) → list_any p xs ≡ true → (x : A) × Has xs x × (p x ≡ true)
any_has p [] e = absurd (true≢false (sym e))
any_has p (y ∷ ys) e = go (p y) refl e (any_has p ys)
  where
    go : (b : Bool) → p y ≡ b → (b || list_any p ys) ≡ true → (list_any p ys ≡ true → (x : _) × Has ys x × (p x ≡ true)) → (x : _) × Has (y ∷ ys) x × (p x ≡ true)
    go true f g r = (y, inl refl, f)
    go false f g r = let w = r g in (w.0, inr w.1, w.2)

pub has_filtered : {A : Type 0} (p : A → Bool) (xs : List A) (x : A) → Has xs x → p x ≡ true → Has (filter p xs) x
has_filtered p [] x h e = absurd h
has_filtered {A = A} p (y ∷ ys) x h e = go (p y) refl h (λ i. has_filtered p ys x i e)
  where
    go : (b : Bool) → p y ≡ b → Has (y ∷ ys) x → (Has ys x → Has (filter p ys) x) → Has (cond b (y ∷ filter p ys) (filter p ys)) x
    go true f (inl s) r = inl s
    go true f (inr i) r = inr (r i)
    go false f (inl s) r = absurd (true_not_false e (ap p (sym s) ∙ f))
    go false f (inr i) r = r i

pub none_filtered : {A : Type 0} (p : A → Bool) (xs : List A) → filter p xs ≡ [] → (x : A) → Has xs x → p x ≡ false
none_filtered p xs e x h = go (p x) refl
  where
    go : (b : Bool) → p x ≡ b → p x ≡ false
    go true f = absurd (subst (λ z. Has z x) e (has_filtered p xs x h f))
    go false f = f

-- ---- what stands twice

all_of : {A : Type 0} (P : A → Type 0) (xs : List A) → ((x : A) → Has xs x → P x) → AllByRecursion P xs
all_of P [] h = tt
all_of P (x ∷ xs) h = (h x (inl refl), all_of P xs (λ y i. h y (inr i)))

none_again : {A : Type 0} (same : A → A → Bool) (seen xs : List A) → first_again same seen xs ≡ None → ((y x : A) → Has seen y → Has xs x → same y x ≡ false) × IsDistinct same xs
unfolding IsDistinct
none_again same seen [] e = (λ y x h i. absurd i, tt)
none_again same seen (x ∷ xs) e =
    let c = cond_none (list_any (λ y. same y x) seen) x (first_again same (x ∷ seen) xs) e in
    let r = none_again same (x ∷ seen) xs c.1 in (
      λ y z h i. ⊎_elim (λ s. ap (same y) (sym s) ∙ none_any (λ w. same w x) seen c.0 y h) (λ j. r.0 y z (inr h) j) i,
      (all_of (λ z. same x z ≡ false) xs (λ z i. r.0 x z (inl refl) i), r.1),
    )

pub none_twice : {A : Type 0} (same : A → A → Bool) (xs : List A) → first_twice same xs ≡ None → IsDistinct same xs
none_twice same xs e = (none_again same [] xs e).1

-- ---- names

pub same_bytes : (a b : Name) → bytes_eq a b ≡ true → a ≡ b
same_bytes a b e = same_of_cmp a b (is_eq-slice_cmp a b ∙ e)

pub bytes_themselves : (a : Name) → bytes_eq a a ≡ true
bytes_themselves a = sym (is_eq-slice_cmp a a) ∙ cmp_itself a

pub among_has : (ns : List Name) (n : Name) → is_among ns n ≡ true → Has ns n
among_has ns n e = let r = any_has (λ m. bytes_eq m n) ns e in subst (Has ns) (same_bytes r.0 n r.2) r.1

pub same_nets : (o q : Option Name) → is_same o q ≡ true → o ≡ q
same_nets None None e = refl
same_nets None (Some n) e = absurd (true≢false (sym e))
same_nets (Some n) None e = absurd (true≢false (sym e))
same_nets (Some n) (Some m) e = ap Some (same_bytes n m e)

all_by : {A : Type 0} (P Q : A → Type 0) (xs : List A) → ((x : A) → P x → Q x) → AllByRecursion P xs → AllByRecursion Q xs
all_by P Q [] f h = tt
all_by P Q (x ∷ xs) f h = (f x h.0, all_by P Q xs f h.1)

pub names_distinct : (ns : List Name) → IsDistinct bytes_eq ns → IsDistinct (eq_by_cmp name_cmp) ns
unfolding IsDistinct
names_distinct [] h = tt
names_distinct (n ∷ ns) h = (all_by (λ m. bytes_eq n m ≡ false) (λ m. eq_by_cmp name_cmp n m ≡ false) ns (λ m e. is_eq-slice_cmp n m ∙ e) h.0, names_distinct ns h.1)

pub all_has : {A : Type 0} (P : A → Type 0) (xs : List A) → AllByRecursion P xs → (x : A) → Has xs x → P x
all_has P [] a x h = absurd h
all_has P (y ∷ ys) a x (inl s) = subst P s a.0
all_has P (y ∷ ys) a x (inr h) = all_has P ys a.1 x h
