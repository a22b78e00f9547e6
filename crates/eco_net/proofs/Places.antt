-- Rows by place and by name
use Rattle.std.proofs.Common.{◌≡◌, ◌≢◌, ℕ, zero, suc, ◌<◌, true, false, cond, List, [], ◌∷◌, ◌++◌, map, length, Option, Some, None, refl, sym, ap, ◌∙◌, arith, slice_get, inl, inr, ⊎_elim, ◌⊎◌}
use Rattle.std.specs.Option.{option_map, MatchOption}
use Rattle.std.specs.Ordering.{eq_by_cmp}
use Rattle.std.specs.List.{IsDistinct, AllByRecursion}
use Rattle.std.proofs.lemmas.Option.{slice_get-map}
use Rattle.std.specs.Cmp.Lexicographic.{nat_list_cmp_total}
use Rattle.std.specs.FinMap.{FinMap, get, insert, empty, from_entries, find, get-from_entries, get-empty}
use Rattle.eco_net.specs.Netlist.{Name, name_cmp}
use Rattle.eco_net.specs.declared.rows.CompRow.{CompRow}
use Rattle.eco_net.specs.Listing.{AreDistinctNames, HasPin, pins}
use Rattle.eco_net.specs.Kept.{IsIndexOf}
use Rattle.eco_net.proofs.Basics.{same_Some, not_None, same_name, cmp_itself, cmp_apart, get_same, get_other, find_first, find_rest}

-- ---- places

-- a place of a pushed list is an old one, or the last
pub push_cases : {A : Type 0} (xs : List A) (y : A) (i : ℕ) (x : A) → slice_get (xs ++ y ∷ []) i ≡ Some x → (slice_get xs i ≡ Some x) ⊎ ((i ≡ length xs) × (y ≡ x))
push_cases [] y zero x e = inr (refl, same_Some e)
push_cases [] y (suc i) x e = absurd (not_None (sym e))
push_cases (z ∷ xs) y zero x e = inl e
push_cases (z ∷ xs) y (suc i) x e = ⊎_elim inl (λ p. inr (ap suc p.0, p.1)) (push_cases xs y i x e)

pub push_old : {A : Type 0} (xs : List A) (y : A) (i : ℕ) (x : A) → slice_get xs i ≡ Some x → slice_get (xs ++ y ∷ []) i ≡ Some x
push_old [] y i x e = absurd (not_None (sym e))
push_old (z ∷ xs) y zero x e = e
push_old (z ∷ xs) y (suc i) x e = push_old xs y i x e

pub push_last : {A : Type 0} (xs : List A) (y : A) → slice_get (xs ++ y ∷ []) (length xs) ≡ Some y
push_last [] y = refl
push_last (z ∷ xs) y = push_last xs y

pub at_place : {A : Type 0} (xs : List A) (i : ℕ) → i < length xs → (x : A) × (slice_get xs i ≡ Some x)
at_place [] i h = absurd (omega arith)
at_place (x ∷ xs) zero h = (x, refl)
at_place (x ∷ xs) (suc i) h = at_place xs i (omega arith)

-- a name at a place is that of a row
pub row_of_name : {A B : Type 0} (f : A → B) (xs : List A) (i : ℕ) (y : B) → slice_get (map f xs) i ≡ Some y → (x : A) × (slice_get xs i ≡ Some x) × (f x ≡ y)
row_of_name f [] i y e = absurd (not_None (sym e))
row_of_name f (x ∷ xs) zero y e = (x, refl, same_Some e)
row_of_name f (x ∷ xs) (suc i) y e = row_of_name f xs i y e

pub name_of_row : {A B : Type 0} (f : A → B) (xs : List A) (i : ℕ) (x : A) → slice_get xs i ≡ Some x → slice_get (map f xs) i ≡ Some (f x)
name_of_row f xs i x e = slice_get-map f xs i ∙ ap (option_map f) e

-- ---- rows by name

module _ {R X : Type 0} (name : R → Name) (f : R → X) where
  abbrev entry : R → Name × X
  entry r = (name r, f r)

  row_by : (rows : List R) (q : Name) (x : X) → find name_cmp q (map entry rows) ≡ Some x → (i : ℕ) × (r : R) × (slice_get rows i ≡ Some r) × (name r ≡ q) × (f r ≡ x)
  row_by [] q x e = absurd (not_None (sym e))
  row_by (r ∷ rows) q x e = ⊎_elim
      (λ s. (0, r, refl, sym s, same_Some (find_first (entry r) (map entry rows) q s e)))
      (λ n. let w = row_by rows q x (find_rest (entry r) (map entry rows) q n e) in (suc w.0, w.1, w.2, w.3, w.4))
      (same_name q (name r))

  -- what stands under a name is said by a row of that name
  pub row_found : (rows : List R) (q : Name) (x : X) → get (from_entries {R = name_cmp} (map entry rows)) q ≡ Some x → (i : ℕ) × (r : R) × (slice_get rows i ≡ Some r) × (name r ≡ q) × (f r ≡ x)
  row_found rows q x e = row_by rows q x (sym (get-from_entries nat_list_cmp_total (map entry rows) q) ∙ e)

  by_row : (rows : List R) (i : ℕ) (r : R) → AreDistinctNames (map name rows) → slice_get rows i ≡ Some r → find name_cmp (name r) (map entry rows) ≡ Some (f r)
  by_row [] i r a e = absurd (not_None (sym e))
  by_row (s ∷ rows) zero r a e =
      ap (λ b. cond b (Some (f s)) (find name_cmp (name r) (map entry rows))) (ap (λ x. eq_by_cmp name_cmp (name x) (name s)) (sym (same_Some e)) ∙ cmp_itself (name s))
      ∙ ap (λ x. Some (f x)) (same_Some e)
  by_row (s ∷ rows) (suc i) r a e =
      ap (λ b. cond b (Some (f s)) (find name_cmp (name r) (map entry rows))) (cmp_apart (name r) (name s) (λ h.
      let z : 0 ≡ suc i = a 0 (suc i) (name r) (ap Some (sym h)) (name_of_row name rows i r e) in absurd (omega (arith, z))))
      ∙ by_row rows i r (λ j k n p q. let z : suc j ≡ suc k = a (suc j) (suc k) n p q in omega (arith, z)) e

  -- a row's name gives what the row says
  pub found_row : (rows : List R) (i : ℕ) (r : R) → AreDistinctNames (map name rows) → slice_get rows i ≡ Some r → get (from_entries {R = name_cmp} (map entry rows)) (name r) ≡ Some (f r)
  found_row rows i r a e = get-from_entries nat_list_cmp_total (map entry rows) (name r) ∙ by_row rows i r a e

  -- a name that isn't found is none of the rows
  pub not_a_row : (rows : List R) (q : Name) → get (from_entries {R = name_cmp} (map entry rows)) q ≡ None → (i : ℕ) → slice_get (map name rows) i ≡ Some q → ⊥
  not_a_row rows q e i s = go rows i (sym (get-from_entries nat_list_cmp_total (map entry rows) q) ∙ e) s
    where
      go : (rows : List R) (i : ℕ) → find name_cmp q (map entry rows) ≡ None → slice_get (map name rows) i ≡ Some q → ⊥
      go [] i e s = not_None (sym s)
      go (r ∷ rows) i e s = ⊎_elim
          (λ h. not_None (find_first (entry r) (map entry rows) q h e))
          (λ n. elim i as (λ j. slice_get (map name (r ∷ rows)) j ≡ Some q → ⊥) [ zero ↦ (λ z. n (sym (same_Some z))) | suc j ↦ (λ z. go rows j (find_rest (entry r) (map entry rows) q n e) z) ] s)
          (same_name q (name r))

  -- a name's place in an index is that of a row, and no row has a name that the index hasn't
  pub number_found : (rows : List R) (places : FinMap name_cmp ℕ) (q : Name) → IsIndexOf (map name rows) places → MatchOption (get places q) (get (from_entries {R = name_cmp} (map entry rows)) q ≡ None) (λ i. slice_get (map name rows) i ≡ Some q)
  number_found rows places q index = go (get places q) refl
    where
      none : get places q ≡ None → (o : Option X) → get (from_entries {R = name_cmp} (map entry rows)) q ≡ o → get (from_entries {R = name_cmp} (map entry rows)) q ≡ None
      none e None f = f
      none e (Some x) f =
          let w = row_found rows q x f in
          absurd (not_None (sym ((index q w.0).0 (name_of_row name rows w.0 w.1 w.2 ∙ ap Some w.3)) ∙ e))

      go : (o : Option ℕ) → get places q ≡ o → MatchOption o (get (from_entries {R = name_cmp} (map entry rows)) q ≡ None) (λ i. slice_get (map name rows) i ≡ Some q)
      go None e = none e (get (from_entries {R = name_cmp} (map entry rows)) q) refl
      go (Some i) e = (index q i).1 e

-- ---- distinct names

pub apart_nil : AreDistinctNames []
apart_nil i j n e f = absurd (not_None (sym e))

pub apart_push : (names : List Name) (q : Name) → AreDistinctNames names → ((i : ℕ) → slice_get names i ≡ Some q → ⊥) → AreDistinctNames (names ++ q ∷ [])
apart_push names q a new i j n e f = ⊎_elim
    (λ x. ⊎_elim (λ y. a i j n x y) (λ y. absurd (new i (x ∙ ap Some (sym y.1)))) (push_cases names q j n f))
    (λ x. ⊎_elim (λ y. absurd (new j (y ∙ ap Some (sym x.1)))) (λ y. x.0 ∙ sym y.0) (push_cases names q j n f))
    (push_cases names q i n e)

none_here : (n : Name) (names : List Name) (j : ℕ) → AllByRecursion (λ y. eq_by_cmp name_cmp n y ≡ false) names → slice_get names j ≡ Some n → ⊥
none_here n [] j h e = not_None (sym e)
none_here n (m ∷ names) zero h e = not_false (sym (cmp_itself n) ∙ ap (eq_by_cmp name_cmp n) (sym (same_Some e)) ∙ h.0)
  where
    not_false : true ≡ false → ⊥
    not_false e = cc
none_here n (m ∷ names) (suc j) h e = none_here n names j h.1 e

pub apart_distinct : (names : List Name) → IsDistinct (eq_by_cmp name_cmp) names → AreDistinctNames names
unfolding IsDistinct
apart_distinct [] d i j n e f = absurd (not_None (sym e))
apart_distinct (m ∷ names) d zero zero n e f = refl
apart_distinct (m ∷ names) d zero (suc j) n e f = absurd (none_here m names j d.0 (f ∙ sym e))
apart_distinct (m ∷ names) d (suc i) zero n e f = absurd (none_here m names i d.0 (e ∙ sym f))
apart_distinct (m ∷ names) d (suc i) (suc j) n e f = ap suc (apart_distinct names d.1 i j n e f)

-- ---- indexes

pub index_nil : IsIndexOf [] empty
index_nil q i = (λ e. absurd (not_None (sym e)), λ e. absurd (not_None (sym e ∙ get-empty name_cmp q)))

pub index_push : (names : List Name) (places : FinMap name_cmp ℕ) (q : Name) → IsIndexOf names places → ((i : ℕ) → slice_get names i ≡ Some q → ⊥) → IsIndexOf (names ++ q ∷ []) (insert places q (length names))
index_push names places q index new n i = (forth, back (same_name n q))
  where
    forth : slice_get (names ++ q ∷ []) i ≡ Some n → get (insert places q (length names)) n ≡ Some i
    forth e = ⊎_elim
        (λ x. get_other places q (length names) n (λ s. new i (x ∙ ap Some s)) ∙ (index n i).0 x)
        (λ x. ap (get (insert places q (length names))) (sym x.1) ∙ get_same places q (length names) ∙ ap Some (sym x.0))
        (push_cases names q i n e)

    back : (n ≡ q) ⊎ (n ≢ q) → get (insert places q (length names)) n ≡ Some i → slice_get (names ++ q ∷ []) i ≡ Some n
    back (inl s) e =
        let z : length names ≡ i = same_Some (sym (get_same places q (length names)) ∙ ap (get (insert places q (length names))) (sym s) ∙ e) in
        ap (slice_get (names ++ q ∷ [])) (sym z) ∙ push_last names q ∙ ap Some (sym s)
    back (inr a) e = push_old names q i n ((index n i).1 (sym (get_other places q (length names) n a) ∙ e))

pub apart_index : (names : List Name) (places : FinMap name_cmp ℕ) → IsIndexOf names places → AreDistinctNames names
apart_index names places index i j n e f = same_Some (sym ((index n i).0 e) ∙ (index n j).0 f)

-- ---- known pins

pub has_pin_row : (o : Option CompRow) (k : ℕ) → HasPin o k → (r : CompRow) × (o ≡ Some r) × (k < length (pins r))
has_pin_row None k h = absurd h
has_pin_row (Some r) k h = (r, refl, h)
