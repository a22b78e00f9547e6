-- How many pins of components are on a net, by the rows and by the netlist
use Rattle.std.proofs.Common.{◌≡◌, ℕ, suc, ◌+◌, ◌-◌, ◌≤◌, cond, List, [], ◌∷◌, map, length, Option, Some, None, refl, sym, ap, ◌∙◌, arith, slice_get, take, is_some, subst, Ordering, Less, Equal, Greater}
use Rattle.std.specs.List.{sum_by, count_by}
use Rattle.std.specs.Ordering.{is_eq}
use Rattle.std.specs.Cmp.Lexicographic.{nat_list_cmp_total}
use Rattle.std.specs.FinMap.{get, empty, entries, values, len, find, put, from_entries, entries-insert, get-entries, get-from_entries, len-insert, len-empty, len-entries}
use Rattle.std.specs.FinMap.Entries.{by_order}
use Rattle.std.proofs.lemmas.List.Sums.{sum_by-cons, sum_by_more, count_by-le-length}
use Rattle.std.proofs.lemmas.Option.{slice_get_within, get_or_from_slice_get}
use Rattle.eco_net.specs.declared.rows.NetRow.{NetRow}
use Rattle.eco_net.specs.declared.rows.CompRow.{CompRow}
use Rattle.eco_net.specs.Netlist.{Name, name_cmp, Component, Role, pins_of}
use Rattle.eco_net.specs.Listing.{Listing, netlist, component, pins, row_joints, net_name, AreDistinctNames}
use Rattle.eco_net.specs.Kept.{IsRow, IsListing}
use Rattle.eco_net.specs.JoinedPins.{joined_pins, unconnected_pins}
use Rattle.eco_net.proofs.Basics.{not_None, cmp_apart}
use Rattle.eco_net.proofs.Named.{apart_rest, apart_first, joint_none}

-- ---- a sum over the values of a map

no_entries : {A : Type 0} (es : List A) → length es ≡ 0 → es ≡ []
no_entries [] e = refl
no_entries (x ∷ es) e = absurd (omega (arith, e))

module _ {X : Type 0} (f : X → ℕ) where
  abbrev total : List (Name × X) → ℕ
  total es = sum_by f (map (λ e. e.1) es)

  total_cons : (e : Name × X) (es : List (Name × X)) → total (e ∷ es) ≡ f e.1 + total es
  total_cons e es = sum_by-cons f e.1 (map (λ e. e.1) es)

  -- an entry of a new key, in its place
  total_put : (k : Name) (v : X) (es : List (Name × X)) → find name_cmp k es ≡ None → total (put name_cmp k v es) ≡ f v + total es
  total_put k v [] n = total_cons (k, v) []
  total_put k v (e ∷ es) n = go (name_cmp k e.0) refl (total_put k v es)
    where
      go : (o : Ordering) → name_cmp k e.0 ≡ o → (find name_cmp k es ≡ None → total (put name_cmp k v es) ≡ f v + total es) → total (by_order o ((k, v) ∷ e ∷ es) ((e.0, v) ∷ es) (e ∷ put name_cmp k v es)) ≡ f v + total (e ∷ es)
      go Less h more = total_cons (k, v) (e ∷ es)
      go Equal h more = absurd (not_None (sym (ap (λ o. cond (is_eq o) (Some e.1) (find name_cmp k es)) h) ∙ n))
      go Greater h more =
          let rest : find name_cmp k es ≡ None = sym (ap (λ o. cond (is_eq o) (Some e.1) (find name_cmp k es)) h) ∙ n in
          omega (arith, total_cons e (put name_cmp k v es), total_cons e es, more rest)

  none_rest : (k : Name) (es : List (Name × X)) → ((i : ℕ) → slice_get (map (λ e. e.0) es) i ≡ Some k → ⊥) → find name_cmp k es ≡ None
  none_rest k [] new = refl
  none_rest k (e ∷ es) new =
      ap (λ b. cond b (Some e.1) (find name_cmp k es)) (cmp_apart k e.0 (λ s. new 0 (ap Some (sym s))))
      ∙ none_rest k es (λ i. new (suc i))

  -- over the values of the map of a list whose keys are distinct
  total_values : (es : List (Name × X)) → AreDistinctNames (map (λ e. e.0) es) → sum_by f (values (from_entries {R = name_cmp} es)) ≡ total es
  total_values [] a = ap total (no_entries (entries (empty {X = X} {R = name_cmp})) (sym (len-entries (empty {X = X} {R = name_cmp})) ∙ len-empty name_cmp X))
  total_values (e ∷ es) a =
      let new : find name_cmp e.0 (entries (from_entries es)) ≡ None =
      sym (get-entries (from_entries es) e.0) ∙ get-from_entries nat_list_cmp_total es e.0 ∙ none_rest e.0 es (λ i s. apart_first e.0 (map (λ e. e.0) es) a i e.0 s refl) in
      ap total (entries-insert nat_list_cmp_total (from_entries es) e.0 e.1)
      ∙ total_put e.0 e.1 (entries (from_entries es)) new
      ∙ ap (λ n. f e.1 + n) (total_values es (apart_rest e.0 (map (λ e. e.0) es) a))
      ∙ sym (total_cons e es)

-- ---- the row_joints of a component

-- how many pins of a row are on a net
abbrev pub joined_count : CompRow → ℕ
joined_count r = count_by is_some r.joined

count_cons : (j : Option ℕ) (js : List (Option ℕ)) → count_by is_some (j ∷ js) ≡ cond (is_some j) 1 0 + count_by is_some js
count_cons j js = sum_by-cons (λ j. cond (is_some j) 1 0) j js

joint_count : (nets : List NetRow) (ps : List (Name × Role)) (js : List (Option ℕ)) → AreDistinctNames (map (λ p. p.0) ps) → length js ≡ length ps → len (from_entries {R = name_cmp} (row_joints nets ps js)) ≡ count_by is_some js
joint_count nets [] [] a l = len-empty name_cmp Name
joint_count nets [] (j ∷ js) a l = absurd (omega (arith, l))
joint_count nets (p ∷ ps) [] a l = absurd (omega (arith, l))
joint_count nets (p ∷ ps) (None ∷ js) a l = omega (arith, joint_count nets ps js (apart_rest p.0 (map (λ p. p.0) ps) a) (omega (arith, l)), count_cons None js)
joint_count nets (p ∷ ps) (Some i ∷ js) a l =
    let rest = from_entries {R = name_cmp} (row_joints nets ps js) in
    let new : get rest p.0 ≡ None = get-from_entries nat_list_cmp_total (row_joints nets ps js) p.0 ∙ joint_none nets ps js p.0 (λ i s. apart_first p.0 (map (λ p. p.0) ps) a i p.0 s refl) in
    len-insert nat_list_cmp_total rest p.0 (net_name nets i)
    ∙ ap (λ o. cond (is_some o) (len rest) (len rest + 1)) new
    ∙ omega (arith, joint_count nets ps js (apart_rest p.0 (map (λ p. p.0) ps) a) (omega (arith, l)), count_cons (Some i) js)

pub row_small : (n : ℕ) (r : CompRow) → IsRow n r → joined_count r ≤ 4294967295
row_small n r row = omega (arith, count_by-le-length is_some r.joined, row.each_pin, row.kind.few)

-- ---- all components

-- with one more of them
pub count_more : (rows : List CompRow) (n : ℕ) (r : CompRow) → slice_get rows n ≡ Some r → sum_by joined_count (take (n + 1) rows) ≡ sum_by joined_count (take n rows) + joined_count r
count_more rows n r e = sum_by_more joined_count rows n r (slice_get_within rows n r e) ∙ ap (λ x. sum_by joined_count (take n rows) + joined_count x) (get_or_from_slice_get rows n r r e)

sum_alike : {A B : Type 0} (f : A → ℕ) (g : B → ℕ) (h : A → B) (xs : List A) → ((i : ℕ) (x : A) → slice_get xs i ≡ Some x → g (h x) ≡ f x) → sum_by g (map h xs) ≡ sum_by f xs
sum_alike f g h [] same = refl
sum_alike f g h (x ∷ xs) same =
    sum_by-cons g (h x) (map h xs)
    ∙ (λ i. same 0 x refl i + sum_alike f g h xs (λ k. same (suc k)) i)
    ∙ sym (sum_by-cons f x xs)

names_are : {X : Type 0} (f : CompRow → X) (rows : List CompRow) → map (λ e. e.0) (map {B = Name × X} (λ r. (r.name, f r)) rows) ≡ map (λ r. r.name) rows
names_are f [] = refl
names_are f (r ∷ rows) = ap (λ ns. r.name ∷ ns) (names_are f rows)

values_are : {X : Type 0} (f : CompRow → X) (rows : List CompRow) → map (λ e. e.1) (map {B = Name × X} (λ r. (r.name, f r)) rows) ≡ map f rows
values_are f [] = refl
values_are f (r ∷ rows) = ap (λ xs. f r ∷ xs) (values_are f rows)

-- the rows' counts are those of the netlist
pub joined_rows : (L : Listing) → IsListing L → sum_by joined_count L.comps ≡ joined_pins (netlist L)
joined_rows L is =
    let es : List (Name × Component) = map (λ r. (r.name, component L.nets r)) L.comps in
    let a : AreDistinctNames (map (λ e. e.0) es) = subst AreDistinctNames (sym (names_are (component L.nets) L.comps)) is.comps in
    sym (total_values (λ x. len x.joined) es a
    ∙ ap (sum_by (λ x. len x.joined)) (values_are (component L.nets) L.comps)
    ∙ sum_alike joined_count (λ x. len x.joined) (component L.nets) L.comps (λ k r e.
    let row = is.rows k r e in
    joint_count L.nets (pins r) r.joined row.kind.apart row.each_pin))

-- ---- unconnected pins

-- how many pins of a row are unconnected
abbrev pub off_count : CompRow → ℕ
off_count r = length r.joined - joined_count r

pub off_small : (n : ℕ) (r : CompRow) → IsRow n r → off_count r ≤ 4294967295
off_small n r row = omega (arith, row.each_pin, row.kind.few)

pub off_more : (rows : List CompRow) (n : ℕ) (r : CompRow) → slice_get rows n ≡ Some r → sum_by off_count (take (n + 1) rows) ≡ sum_by off_count (take n rows) + off_count r
off_more rows n r e = sum_by_more off_count rows n r (slice_get_within rows n r e) ∙ ap (λ x. sum_by off_count (take n rows) + off_count x) (get_or_from_slice_get rows n r r e)

pub off_rows : (L : Listing) → IsListing L → sum_by off_count L.comps ≡ unconnected_pins (netlist L)
off_rows L is =
    let es : List (Name × Component) = map (λ r. (r.name, component L.nets r)) L.comps in
    let a : AreDistinctNames (map (λ e. e.0) es) = subst AreDistinctNames (sym (names_are (component L.nets) L.comps)) is.comps in
    sym (total_values (λ x. length (pins_of x.kind) - len x.joined) es a
    ∙ ap (sum_by (λ x. length (pins_of x.kind) - len x.joined)) (values_are (component L.nets) L.comps)
    ∙ sum_alike off_count (λ x. length (pins_of x.kind) - len x.joined) (component L.nets) L.comps (λ k r e.
    let row = is.rows k r e in
    omega (arith, joint_count L.nets (pins r) r.joined row.kind.apart row.each_pin, row.each_pin)))
