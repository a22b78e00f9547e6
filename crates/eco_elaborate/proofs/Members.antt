-- What stands in a list that is made from others.
use Rattle.std.proofs.Common.{◌≡◌, Bool, true, false, cond, not, List, [], ◌∷◌, ◌++◌, Option, Some, None, refl, sym, ap, ◌∙◌, inl, inr, ⊎_elim, ◌⊎◌, if◌then◌else◌, true≢false, filter}
use Rattle.std.specs.List.{list_any, list_all, find, filter_map, cons_option}
use Rattle.std.specs.Str.{bytes_eq}
use Rattle.std.proofs.lemmas.Bool.{cases_Bool, or_cases, or_left, or_right, and_parts, and_from}
use Rattle.eco_net.specs.Netlist.{Name}
use Rattle.eco_net.proofs.Basics.{Has, same_Some, not_None}
use Rattle.eco_issued_laws.specs.Changes.{put_in, in_order, once_each}
use Rattle.eco_elaborate.proofs.Names.{same_or_other, other_name}

-- ---- tests of lists

pub any_has : {A : Type 0} (test : A → Bool) (xs : List A) → list_any test xs ≡ true → (x : A) × Has xs x × (test x ≡ true)
any_has test [] e = absurd (true≢false (sym e))
any_has test (x ∷ xs) e = ⊎_elim (λ t. (x, inl refl, t)) (λ t. let r = any_has test xs t in (r.0, inr r.1, r.2)) (or_cases (test x) (list_any test xs) e)

pub has_any : {A : Type 0} (test : A → Bool) (xs : List A) (x : A) → Has xs x → test x ≡ true → list_any test xs ≡ true
has_any test [] x h e = absurd h
has_any test (y ∷ ys) x (inl s) e = or_left (test y) (list_any test ys) (ap test s ∙ e)
has_any test (y ∷ ys) x (inr h) e = or_right (test y) (list_any test ys) (has_any test ys x h e)

pub all_has : {A : Type 0} (test : A → Bool) (xs : List A) (x : A) → list_all test xs ≡ true → Has xs x → test x ≡ true
all_has test [] x e h = absurd h
all_has test (y ∷ ys) x e (inl s) = ap test (sym s) ∙ (and_parts (test y) (list_all test ys) e).0
all_has test (y ∷ ys) x e (inr h) = all_has test ys x (and_parts (test y) (list_all test ys) e).1 h

pub has_all : {A : Type 0} (test : A → Bool) (xs : List A) → ((x : A) → Has xs x → test x ≡ true) → list_all test xs ≡ true
has_all test [] each = refl
has_all test (x ∷ xs) each = and_from (test x) (list_all test xs) (each x (inl refl)) (has_all test xs (λ y h. each y (inr h)))

-- ---- lists one after another

pub has_of_append : {A : Type 0} (xs ys : List A) (z : A) → Has (xs ++ ys) z → Has xs z ⊎ Has ys z
has_of_append [] ys z h = inr h
has_of_append (x ∷ xs) ys z (inl e) = inl (inl e)
has_of_append (x ∷ xs) ys z (inr h) = ⊎_elim (λ i. inl (inr i)) (λ i. inr i) (has_of_append xs ys z h)

-- ---- filtered lists

of_chosen : {A : Type 0} (test : A → Bool) (x z : A) (ys : List A) (b : Bool) → test x ≡ b → Has (cond b (x ∷ ys) ys) z → ((x ≡ z) × (test z ≡ true)) ⊎ Has ys z
of_chosen test x z ys true e h = ⊎_elim (λ s. inl (s, ap test (sym s) ∙ e)) (λ i. inr i) h
of_chosen test x z ys false e h = inr h

pub of_filter : {A : Type 0} (test : A → Bool) (xs : List A) (z : A) → Has (filter test xs) z → Has xs z × (test z ≡ true)
of_filter test [] z h = absurd h
of_filter test (x ∷ xs) z h = ⊎_elim (λ s. (inl s.0, s.1)) (λ i. let r = of_filter test xs z i in (inr r.0, r.1)) (of_chosen test x z (filter test xs) (test x) refl h)

to_chosen : {A : Type 0} (x z : A) (ys : List A) (b : Bool) → (x ≡ z) × (b ≡ true) ⊎ Has ys z → Has (cond b (x ∷ ys) ys) z
to_chosen x z ys true (inl s) = inl s.0
to_chosen x z ys true (inr h) = inr h
to_chosen x z ys false (inl s) = absurd (true≢false (sym s.1))
to_chosen x z ys false (inr h) = h

pub in_filter : {A : Type 0} (test : A → Bool) (xs : List A) (z : A) → Has xs z → test z ≡ true → Has (filter test xs) z
in_filter test [] z h e = absurd h
in_filter test (x ∷ xs) z h e = to_chosen x z (filter test xs) (test x) (⊎_elim (λ s. inl (s, ap test s ∙ e)) (λ i. inr (in_filter test xs z i e)) h)

pub filter_all : {A : Type 0} (test : A → Bool) (xs : List A) → ((x : A) → Has xs x → test x ≡ true) → filter test xs ≡ xs
filter_all test [] each = refl
filter_all {A = A} test (x ∷ xs) each = ap (λ b. cond b (x ∷ filter test xs) (filter test xs)) (each x (inl refl)) ∙ ap {B = List A} (λ ys. x ∷ ys) (filter_all test xs (λ y h. each y (inr h)))

pub filter_none : {A : Type 0} (test : A → Bool) (xs : List A) → ((x : A) → Has xs x → test x ≡ false) → filter test xs ≡ []
filter_none test [] each = refl
filter_none test (x ∷ xs) each = ap (λ b. cond b (x ∷ filter test xs) (filter test xs)) (each x (inl refl)) ∙ filter_none test xs (λ y h. each y (inr h))

-- ---- lists in order

of_put : {A : Type 0} (before : A → A → Bool) (x z : A) (ys : List A) → Has (put_in before x ys) z → (x ≡ z) ⊎ Has ys z
of_put before x z [] h = h
of_put before x z (y ∷ ys) h = go (before y x) (of_put before x z ys) h
  where
    go : (b : Bool) → (Has (put_in before x ys) z → (x ≡ z) ⊎ Has ys z) → Has (if b then y ∷ put_in before x ys else x ∷ y ∷ ys) z → (x ≡ z) ⊎ Has (y ∷ ys) z
    go true rest h = ⊎_elim (λ e. inr (inl e)) (λ i. ⊎_elim (λ e. inl e) (λ k. inr (inr k)) (rest i)) h
    go false rest h = h

to_put : {A : Type 0} (before : A → A → Bool) (x z : A) (ys : List A) → (x ≡ z) ⊎ Has ys z → Has (put_in before x ys) z
to_put before x z [] h = h
to_put before x z (y ∷ ys) h = go (before y x) (to_put before x z ys) h
  where
    go : (b : Bool) → ((x ≡ z) ⊎ Has ys z → Has (put_in before x ys) z) → (x ≡ z) ⊎ Has (y ∷ ys) z → Has (if b then y ∷ put_in before x ys else x ∷ y ∷ ys) z
    go true rest h = ⊎_elim (λ e. inr (rest (inl e))) (λ i. ⊎_elim (λ e. inl e) (λ k. inr (rest (inr k))) i) h
    go false rest h = h

pub of_order : {A : Type 0} (before : A → A → Bool) (xs : List A) (z : A) → Has (in_order before xs) z → Has xs z
of_order before [] z h = h
of_order before (x ∷ xs) z h = ⊎_elim (λ e. inl e) (λ i. inr (of_order before xs z i)) (of_put before x z (in_order before xs) h)

pub to_order : {A : Type 0} (before : A → A → Bool) (xs : List A) (z : A) → Has xs z → Has (in_order before xs) z
to_order before [] z h = h
to_order before (x ∷ xs) z h = to_put before x z (in_order before xs) (⊎_elim (λ e. inl e) (λ i. inr (to_order before xs z i)) h)

-- ---- each once

pub of_once : (ns : List Name) (z : Name) → Has (once_each ns) z → Has ns z
of_once [] z h = h
of_once (n ∷ ns) z h = ⊎_elim (λ e. inl e) (λ i. inr (of_once ns z (of_filter (λ m. not (bytes_eq m n)) (once_each ns) z i).0)) h

pub to_once : (ns : List Name) (z : Name) → Has ns z → Has (once_each ns) z
to_once [] z h = h
to_once (n ∷ ns) z h = ⊎_elim
    (λ e. inl e)
    (λ a. inr (in_filter (λ m. not (bytes_eq m n)) (once_each ns) z (⊎_elim (λ e. absurd (a e)) (λ i. to_once ns z i) h) (ap not (other_name z n (λ e. a (sym e))))))
    (same_or_other n z)

-- ---- the first that passes

pub found_passes : {A : Type 0} (test : A → Bool) (xs : List A) (x : A) → find test xs ≡ Some x → Has xs x × (test x ≡ true)
found_passes test [] x e = absurd (not_None (sym e))
found_passes test (y ∷ ys) x e = ⊎_elim
    (λ t. let s = same_Some (sym (ap (λ b. cond b (Some y) (find test ys)) t) ∙ e) in (inl s, ap test (sym s) ∙ t))
    (λ f. let r = found_passes test ys x (sym (ap (λ b. cond b (Some y) (find test ys)) f) ∙ e) in (inr r.0, r.1))
    (cases_Bool (test y))

pub passes_found : {A : Type 0} (test : A → Bool) (xs : List A) (x : A) → Has xs x → test x ≡ true → (y : A) × (find test xs ≡ Some y)
passes_found test [] x h e = absurd h
passes_found test (z ∷ zs) x h e = ⊎_elim
    (λ t. (z, ap (λ b. cond b (Some z) (find test zs)) t))
    (λ f.
    let r = passes_found test zs x (⊎_elim (λ s. absurd (true≢false (sym e ∙ ap test (sym s) ∙ f))) (λ i. i) h) e in
    (r.0, ap (λ b. cond b (Some z) (find test zs)) f ∙ r.1))
    (cases_Bool (test z))

-- ---- what a function gives of the items

pub of_filter_map : {A B : Type 0} (f : A → Option B) (xs : List A) (y : B) → Has (filter_map f xs) y → (x : A) × Has xs x × (f x ≡ Some y)
of_filter_map f [] y h = absurd h
of_filter_map {A = A} {B = B} f (x ∷ xs) y h = go (f x) refl (λ i. of_filter_map f xs y i) h
  where
    go : (o : Option B) → f x ≡ o → (Has (filter_map f xs) y → (z : A) × Has xs z × (f z ≡ Some y)) → Has (cons_option o (filter_map f xs)) y → (z : A) × Has (x ∷ xs) z × (f z ≡ Some y)
    go None e rest i = let r = rest i in (r.0, inr r.1, r.2)
    go (Some z) e rest i = ⊎_elim (λ s. (x, inl refl, e ∙ ap Some s)) (λ k. let r = rest k in (r.0, inr r.1, r.2)) i

pub in_filter_map : {A B : Type 0} (f : A → Option B) (xs : List A) (x : A) (y : B) → Has xs x → f x ≡ Some y → Has (filter_map f xs) y
in_filter_map f [] x y h e = absurd h
in_filter_map {B = B} f (z ∷ zs) x y h e = go (f z) refl (λ i. in_filter_map f zs x y i e) h
  where
    go : (o : Option B) → f z ≡ o → (Has zs x → Has (filter_map f zs) y) → Has (z ∷ zs) x → Has (cons_option o (filter_map f zs)) y
    go None g rest i = ⊎_elim (λ s. absurd (not_None (sym e ∙ ap f (sym s) ∙ g))) (λ k. rest k) i
    go (Some w) g rest i = ⊎_elim (λ s. inl (same_Some (sym g ∙ ap f s ∙ e))) (λ k. inr (rest k)) i
