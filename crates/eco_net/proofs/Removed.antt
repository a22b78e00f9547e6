-- Components that are taken out: the rows that are left, their index, and the netlist by names
use Rattle.std.proofs.Common.{◌≡◌, ℕ, zero, suc, ◌+◌, ◌<◌, ◌≤◌, ◌||◌, Bool, true, false, cond, not, List, [], ◌∷◌, ◌++◌, map, length, Option, Some, None, refl, sym, ap, ◌∙◌, arith, slice_get, take, get_or, subst}
use Rattle.std.specs.List.{filter, list_any}
use Rattle.std.specs.Ordering.{eq_by_cmp}
use Rattle.std.specs.Cmp.Lexicographic.{nat_list_cmp_total}
use Rattle.std.specs.FinMap.{FinMap, insert, find, get-from_entries, get-retain_keys, same_map}
use Rattle.std.proofs.lemmas.List.{take_more, map_push, length-map, length-take-le}
use Rattle.std.proofs.lemmas.Option.{slice_get_read}
use Rattle.std.proofs.lemmas.Map.Lookups.{exact_bytes}
use Rattle.eco_common.specs.declared.limits.TheConstants.{MAX_LISTED_COMPS}
use Rattle.eco_net.specs.declared.rows.CompRow.{CompRow}
use Rattle.eco_net.specs.Netlist.{Name, name_cmp}
use Rattle.eco_net.specs.Listing.{Listing, netlist, component, AreDistinctNames}
use Rattle.eco_net.specs.Kept.{IsIndexOf, IsIndexed, IsListing}
use Rattle.eco_net.specs.Removal.{unmarked_rows, marked_names, without_comps}
use Rattle.eco_net.proofs.Basics.{not_None, same_of_cmp, cmp_apart}
use Rattle.eco_net.proofs.Places.{row_of_name, name_of_row, apart_nil, index_push}
use Rattle.eco_net.proofs.Named.{apart_rest, apart_first}

abbrev names : List CompRow → List Name
names rows = map (λ r. r.name) rows

-- ---- the rows that are left

-- each of them is one of the rows
left_row : (ms : List Bool) (rows : List CompRow) (i : ℕ) (r : CompRow) → slice_get (unmarked_rows ms rows) i ≡ Some r → (j : ℕ) × (slice_get rows j ≡ Some r)
left_row [] rows i r e = absurd (not_None (sym e))
left_row (m ∷ ms) [] i r e = absurd (not_None (sym e))
left_row (true ∷ ms) (x ∷ rows) i r e = let w = left_row ms rows i r e in (suc w.0, w.1)
left_row (false ∷ ms) (x ∷ rows) zero r e = (0, e)
left_row (false ∷ ms) (x ∷ rows) (suc i) r e = let w = left_row ms rows i r e in (suc w.0, w.1)

left_few : (ms : List Bool) (rows : List CompRow) → length (unmarked_rows ms rows) ≤ length rows
left_few [] rows = omega arith
left_few (m ∷ ms) [] = omega arith
left_few (true ∷ ms) (x ∷ rows) = omega (arith, left_few ms rows)
left_few (false ∷ ms) (x ∷ rows) = omega (arith, left_few ms rows)

apart_cons : (n : Name) (ns : List Name) → AreDistinctNames ns → ((i : ℕ) → slice_get ns i ≡ Some n → ⊥) → AreDistinctNames (n ∷ ns)
apart_cons n ns a new zero zero m e f = refl
apart_cons n ns a new zero (suc j) m e f = absurd (new j (f ∙ sym e))
apart_cons n ns a new (suc i) zero m e f = absurd (new i (e ∙ sym f))
apart_cons n ns a new (suc i) (suc j) m e f = ap suc (a i j m e f)

pub left_apart : (ms : List Bool) (rows : List CompRow) → AreDistinctNames (map (λ r. r.name) rows) → AreDistinctNames (map (λ r. r.name) (unmarked_rows ms rows))
left_apart [] rows a = apart_nil
left_apart (m ∷ ms) [] a = apart_nil
left_apart (true ∷ ms) (x ∷ rows) a = left_apart ms rows (apart_rest x.name (names rows) a)
left_apart (false ∷ ms) (x ∷ rows) a = apart_cons x.name (names (unmarked_rows ms rows)) (left_apart ms rows (apart_rest x.name (names rows) a)) (λ i e.
    let w = row_of_name (λ r. r.name) (unmarked_rows ms rows) i x.name e in
    let v = left_row ms rows i w.0 w.1 in
    apart_first x.name (names rows) a v.0 w.0.name (name_of_row (λ r. r.name) rows v.0 w.0 v.1) w.2)

-- what the type keeps, with a new index of the components
pub comps_left : (L : Listing) (a b c : FinMap name_cmp ℕ) → IsIndexed L a b c → (ms : List Bool) (index : FinMap name_cmp ℕ) → IsIndexOf (map (λ r. r.name) (unmarked_rows ms L.comps)) index → IsIndexed (record L { comps = unmarked_rows ms L.comps }) a index c
comps_left L a b c is ms index new = record {
  listing = record {
    nets = is.listing.nets;
    comps = left_apart ms L.comps is.listing.comps;
    tops = is.listing.tops;
    rows = λ k r e. let w = left_row ms L.comps k r e in is.listing.rows w.0 r w.1;
    ends = is.listing.ends;
    few_nets = is.listing.few_nets;
    few_comps = omega (arith, left_few ms L.comps, is.listing.few_comps);
    few_tops = is.listing.few_tops;
  };
  nets = is.nets;
  comps = new;
  reserved = is.reserved;
}

pub left_small : (L : Listing) → IsListing L → (ms : List Bool) → length (unmarked_rows ms L.comps) ≤ MAX_LISTED_COMPS
left_small L is ms = omega (arith, left_few ms L.comps, is.few_comps)

-- ---- the loop over the rows

abbrev pub unmarked_of : List (Bool × CompRow) → List CompRow
unmarked_of ps = map (λ p. p.1) (filter (λ p. not p.0) ps)

unmarked_push : (ps : List (Bool × CompRow)) (p : Bool × CompRow) → unmarked_of (ps ++ p ∷ []) ≡ unmarked_of ps ++ cond p.0 [] (p.1 ∷ [])
unmarked_push [] (true, r) = refl
unmarked_push [] (false, r) = refl
unmarked_push ((true, x) ∷ ps) p = unmarked_push ps p
unmarked_push ((false, x) ∷ ps) p = ap (λ rows. x ∷ rows) (unmarked_push ps p)

-- after one more of them
pub unmarked_more : (ps : List (Bool × CompRow)) (n m : ℕ) (p : Bool × CompRow) → m ≡ n + 1 → n < length ps → p ≡ get_or ps n p → unmarked_of (take m ps) ≡ unmarked_of (take n ps) ++ cond p.0 [] (p.1 ∷ [])
unmarked_more ps n m p e h is =
    ap (λ k. unmarked_of (take k ps)) e
    ∙ ap unmarked_of (take_more ps n p h ∙ ap (λ q. take n ps ++ q ∷ []) (sym is))
    ∙ unmarked_push (take n ps) p

-- ---- their index

taken : {A : Type 0} (xs : List A) (n i : ℕ) (x : A) → slice_get (take n xs) i ≡ Some x → (i < n) × (slice_get xs i ≡ Some x)
taken [] zero i x e = absurd (not_None (sym e))
taken [] (suc n) i x e = absurd (not_None (sym e))
taken (y ∷ xs) zero i x e = absurd (not_None (sym e))
taken (y ∷ xs) (suc n) zero x e = (omega arith, e)
taken (y ∷ xs) (suc n) (suc i) x e = let w = taken xs n i x e in (omega (arith, w.0), w.1)

-- with one more of the names
pub index_more : (rows : List CompRow) (n : ℕ) (row : CompRow) (places : FinMap name_cmp ℕ) → n < length rows → row ≡ get_or rows n row → AreDistinctNames (map (λ r. r.name) rows) → IsIndexOf (map (λ r. r.name) (take n rows)) places → IsIndexOf (map (λ r. r.name) (take (n + 1) rows)) (insert places row.name n)
index_more rows n row places h is a index =
    let more : names (take (n + 1) rows) ≡ names (take n rows) ++ row.name ∷ [] = ap names (take_more rows n row h ∙ ap (λ r. take n rows ++ r ∷ []) (sym is)) ∙ map_push (λ r. r.name) (take n rows) row in
    let long : length (names (take n rows)) ≡ n = length-map (take n rows) (λ r. r.name) ∙ length-take-le n rows (omega (arith, h)) in
    let here : slice_get (names rows) n ≡ Some row.name = name_of_row (λ r. r.name) rows n row (slice_get_read rows (length rows) n row refl h is) in
    let new : (i : ℕ) → slice_get (names (take n rows)) i ≡ Some row.name → ⊥ = λ i s.
    let w = row_of_name (λ r. r.name) (take n rows) i row.name s in
    let t = taken rows n i w.0 w.1 in
    let z : i ≡ n = a i n row.name (name_of_row (λ r. r.name) rows i w.0 t.1 ∙ ap Some w.2) here in
    omega (arith, t.0, z) in
    subst (λ ns. IsIndexOf ns (insert places row.name n)) (sym more)
    (subst (λ k. IsIndexOf (names (take n rows) ++ row.name ∷ []) (insert places row.name k)) long (index_push (names (take n rows)) places row.name index new))

-- ---- by names

none_anyway : {X : Type 0} (b : Bool) → ◌≡◌ {A = Option X} (cond b None None) None
none_anyway true = refl
none_anyway false = refl

none_found : {X : Type 0} (f : CompRow → X) (rows : List CompRow) (q : Name) → ((i : ℕ) → slice_get (names rows) i ≡ Some q → ⊥) → find name_cmp q (map (λ r. (r.name, f r)) rows) ≡ None
none_found f [] q new = refl
none_found f (x ∷ rows) q new =
    ap (λ b. cond b (Some (f x)) (find name_cmp q (map (λ r. (r.name, f r)) rows))) (cmp_apart q x.name (λ e. new 0 (ap Some (sym e))))
    ∙ none_found f rows q (λ i. new (suc i))

none_marked : (ms : List Bool) (rows : List CompRow) (q : Name) → ((i : ℕ) → slice_get (names rows) i ≡ Some q → ⊥) → list_any (eq_by_cmp name_cmp q) (marked_names ms rows) ≡ false
none_marked [] rows q new = refl
none_marked (m ∷ ms) [] q new = refl
none_marked (true ∷ ms) (x ∷ rows) q new =
    ap (λ b. b || list_any (eq_by_cmp name_cmp q) (marked_names ms rows)) (cmp_apart q x.name (λ e. new 0 (ap Some (sym e))))
    ∙ none_marked ms rows q (λ i. new (suc i))
none_marked (false ∷ ms) (x ∷ rows) q new = none_marked ms rows q (λ i. new (suc i))

-- at a row that is marked
out_step : {X : Type 0} (here any : Bool) (v : X) (all left : Option X) → (here ≡ true → all ≡ None) → left ≡ cond (not any) all None → left ≡ cond (not (here || any)) (cond here (Some v) all) None
out_step true any v all left none e = e ∙ ap (λ o. cond (not any) o None) (none refl) ∙ none_anyway (not any)
out_step false any v all left none e = e

-- at a row that is not
left_step : {X : Type 0} (here any : Bool) (v : X) (all left : Option X) → (here ≡ true → any ≡ false) → left ≡ cond (not any) all None → cond here (Some v) left ≡ cond (not any) (cond here (Some v) all) None
left_step true any v all left none e = sym (ap (λ b. cond (not b) (Some v) None) (none refl))
left_step false any v all left none e = e

find_left : {X : Type 0} (f : CompRow → X) (ms : List Bool) (rows : List CompRow) (q : Name) → length ms ≡ length rows → AreDistinctNames (names rows) → find name_cmp q (map (λ r. (r.name, f r)) (unmarked_rows ms rows)) ≡ cond (not (list_any (eq_by_cmp name_cmp q) (marked_names ms rows))) (find name_cmp q (map (λ r. (r.name, f r)) rows)) None
find_left f [] [] q l a = refl
find_left f [] (x ∷ rows) q l a = absurd (omega (arith, l))
find_left f (m ∷ ms) [] q l a = absurd (omega (arith, l))
find_left f (true ∷ ms) (x ∷ rows) q l a = out_step (eq_by_cmp name_cmp q x.name) _ (f x) _ _
    (λ h. none_found f rows q (λ i e. apart_first x.name (names rows) a i q e (same_of_cmp q x.name h)))
    (find_left f ms rows q (omega (arith, l)) (apart_rest x.name (names rows) a))
find_left f (false ∷ ms) (x ∷ rows) q l a = left_step (eq_by_cmp name_cmp q x.name) _ (f x) _ _
    (λ h. none_marked ms rows q (λ i e. apart_first x.name (names rows) a i q e (same_of_cmp q x.name h)))
    (find_left f ms rows q (omega (arith, l)) (apart_rest x.name (names rows) a))

-- the netlist is without the components whose names are marked
pub comps_are_out : (L : Listing) → IsListing L → (ms : List Bool) → length ms ≡ length L.comps → netlist (record L { comps = unmarked_rows ms L.comps }) ≡ without_comps (netlist L) (marked_names ms L.comps)
comps_are_out L is ms l = ap (λ comps. record (netlist L) { comps = comps }) (same_map nat_list_cmp_total exact_bytes _ _ (λ q.
    let stays : Name → Bool = λ c. not (list_any (eq_by_cmp name_cmp c) (marked_names ms L.comps)) in
    get-from_entries nat_list_cmp_total (map (λ r. (r.name, component L.nets r)) (unmarked_rows ms L.comps)) q
    ∙ find_left (component L.nets) ms L.comps q l is.comps
    ∙ ap (λ o. cond (stays q) o None) (sym (get-from_entries nat_list_cmp_total (map (λ r. (r.name, component L.nets r)) L.comps) q))
    ∙ sym (get-retain_keys (netlist L).comps stays q (λ x e. ap stays (sym (exact_bytes q x e))))))
