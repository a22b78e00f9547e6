-- Names and rows where a listing changes
use Rattle.std.proofs.Common.{◌≡◌, ◌≢◌, ℕ, zero, suc, ◌<◌, Bool, true, false, cond, ◌||◌, List, [], ◌∷◌, ◌++◌, map, length, Option, Some, None, refl, sym, ap, ◌∙◌, arith, slice_get, slice_set, replicate, ⊎_elim}
use Rattle.std.specs.Option.{option_map, unwrap_or}
use Rattle.std.specs.List.{filter, list_any}
use Rattle.std.specs.Ordering.{eq_by_cmp}
use Rattle.std.proofs.lemmas.Option.{slice_get-map, slice_get_within}
use Rattle.std.specs.Cmp.Lexicographic.{nat_list_cmp_total}
use Rattle.std.specs.FinMap.{get, insert, from_entries, find, get-from_entries, get-insert, same_map}
use Rattle.std.specs.FinSet as set
use Rattle.std.proofs.lemmas.Map.Lookups.{exact_bytes}
use Rattle.eco_net.specs.declared.rows.NetRow.{NetRow}
use Rattle.eco_net.specs.declared.rows.CompRow.{CompRow}
use Rattle.eco_net.specs.declared.rows.TopRow.{TopRow}
use Rattle.eco_net.specs.Netlist.{Name, name_cmp, Component, Top, Role}
use Rattle.eco_net.specs.Listing.{component, top, pins, row_joints, net_name, with_tie, AreDistinctNames}
use Rattle.eco_net.specs.Kept.{IsRow}
use Rattle.eco_net.proofs.Basics.{same_Some, not_None, same_name, same_of_cmp, cmp_itself, cmp_apart}
use Rattle.eco_net.proofs.Places.{name_of_row, push_old, at_place}
use Rattle.eco_net.proofs.Named.{apart_rest, apart_first}
use Rattle.eco_net.proofs.Added.{tie_names}

pub map_rows : {A B : Type 0} (f g : A → B) (xs : List A) → ((i : ℕ) (x : A) → slice_get xs i ≡ Some x → f x ≡ g x) → map f xs ≡ map g xs
map_rows f g [] h = refl
map_rows f g (x ∷ xs) h = λ i. h 0 x refl i ∷ map_rows f g xs (λ k y e. h (suc k) y e) i

-- ---- numbers that give the same names

abbrev pub AlikeTo : List NetRow → List NetRow → ℕ → Type 0
AlikeTo nets more n = (i : ℕ) → i < n → net_name more i ≡ net_name nets i

module _ (nets more : List NetRow) (n : ℕ) (alike : AlikeTo nets more n) where
  joints_alike : (ps : List (Name × Role)) (js : List (Option ℕ)) → ((k i : ℕ) → slice_get js k ≡ Some (Some i) → i < n) → row_joints more ps js ≡ row_joints nets ps js
  joints_alike [] js h = refl
  joints_alike (p ∷ ps) [] h = refl
  joints_alike (p ∷ ps) (None ∷ js) h = joints_alike ps js (λ k. h (suc k))
  joints_alike (p ∷ ps) (Some i ∷ js) h = λ t. (p.0, alike i (h 0 i refl) t) ∷ joints_alike ps js (λ k. h (suc k)) t

  pub component_alike : (r : CompRow) → IsRow n r → component more r ≡ component nets r
  component_alike r row = ap (λ (es : List (Name × Name)). record (component nets r) { joined = from_entries es }) (joints_alike (pins r) r.joined row.known)

  pub comps_alike : (rows : List CompRow) → ((c : ℕ) (r : CompRow) → slice_get rows c ≡ Some r → IsRow n r) → map {B = Name × Component} (λ r. (r.name, component more r)) rows ≡ map (λ r. (r.name, component nets r)) rows
  comps_alike rows h = map_rows {B = Name × Component} (λ r. (r.name, component more r)) (λ r. (r.name, component nets r)) rows (λ c r e. ap {B = Name × Component} (λ x. (r.name, x)) (component_alike r (h c r e)))

  pub tops_alike : (rows : List TopRow) → ((t : ℕ) (r : TopRow) → slice_get rows t ≡ Some r → r.net < n) → map {B = Name × Top} (λ r. (r.name, top more r)) rows ≡ map (λ r. (r.name, top nets r)) rows
  tops_alike rows h = map_rows {B = Name × Top} (λ r. (r.name, top more r)) (λ r. (r.name, top nets r)) rows (λ t r e. ap {B = Name × Top} (λ x. (r.name, record { dir = r.dir; net = x })) (alike r.net (h t r e)))

pub pushed_alike : (nets : List NetRow) (row : NetRow) → AlikeTo nets (nets ++ row ∷ []) (length nets)
pushed_alike nets row i h =
    let r = at_place nets i h in
    ap (λ o. unwrap_or (option_map (λ r. r.name) o) []) (push_old nets row i r.0 r.1 ∙ sym r.1)

pub tied_alike : (nets : List NetRow) (n i : ℕ) → net_name (with_tie nets n) i ≡ net_name nets i
tied_alike nets n i =
    ap (λ o. unwrap_or o []) (sym (slice_get-map (λ r. r.name) (with_tie nets n) i) ∙ ap (λ ns. slice_get ns i) (tie_names nets n) ∙ slice_get-map (λ r. r.name) nets i)

-- ---- unconnected pins

pub joints_none : (nets : List NetRow) (ps : List (Name × Role)) (n : ℕ) → row_joints nets ps (replicate n None) ≡ []
joints_none nets [] n = refl
joints_none nets (p ∷ ps) zero = refl
joints_none nets (p ∷ ps) (suc n) = joints_none nets ps n

-- ---- one pin's net

swap : {X : Type 0} (a b : Bool) (v : X) (w rest : Option X) → (a ≡ true → b ≡ true → ⊥) → cond a (Some v) (cond b w rest) ≡ cond b w (cond a (Some v) rest)
swap true true v w rest h = absurd (h refl refl)
swap true false v w rest h = refl
swap false b v w rest h = refl

module _ (nets : List NetRow) where
  abbrev nm : ℕ → Name
  nm = net_name nets

  none_of : (ps : List (Name × Role)) (js : List (Option ℕ)) (q : Name) → ((i : ℕ) → slice_get (map (λ p. p.0) ps) i ≡ Some q → ⊥) → find name_cmp q (row_joints nets ps js) ≡ None
  none_of [] js q a = refl
  none_of (p ∷ ps) [] q a = refl
  none_of (p ∷ ps) (None ∷ js) q a = none_of ps js q (λ i. a (suc i))
  none_of (p ∷ ps) (Some i ∷ js) q a =
      ap (λ b. cond b (Some (nm i)) (find name_cmp q (row_joints nets ps js))) (cmp_apart q p.0 (λ s. a 0 (ap Some (sym s))))
      ∙ none_of ps js q (λ i. a (suc i))

  -- what is under a pin's name but one, and past it
  past_first : (p : Name × Role) (ps : List (Name × Role)) (old : Option ℕ) (js : List (Option ℕ)) (q : Name) → q ≢ p.0 → find name_cmp q (row_joints nets (p ∷ ps) (old ∷ js)) ≡ find name_cmp q (row_joints nets ps js)
  past_first p ps None js q n = refl
  past_first p ps (Some i) js q n = ap (λ b. cond b (Some (nm i)) (find name_cmp q (row_joints nets ps js))) (cmp_apart q p.0 n)

  at_first : (p : Name × Role) (ps : List (Name × Role)) (old : Option ℕ) (js : List (Option ℕ)) (q : Name) → AreDistinctNames (map (λ p. p.0) (p ∷ ps)) → q ≡ p.0 → find name_cmp q (row_joints nets (p ∷ ps) (old ∷ js)) ≡ option_map nm old
  at_first p ps None js q a s = none_of ps js q (λ i h. apart_first p.0 (map (λ p. p.0) ps) a i q h s)
  at_first p ps (Some i) js q a s = ap (λ b. cond b (Some (nm i)) (find name_cmp q (row_joints nets ps js))) (ap (λ x. eq_by_cmp name_cmp x p.0) s ∙ cmp_itself p.0)

  first_put : (p : Name × Role) (ps : List (Name × Role)) (old new : Option ℕ) (js : List (Option ℕ)) (q : Name) → AreDistinctNames (map (λ p. p.0) (p ∷ ps)) → find name_cmp q (row_joints nets (p ∷ ps) (new ∷ js)) ≡ cond (eq_by_cmp name_cmp q p.0) (option_map nm new) (find name_cmp q (row_joints nets (p ∷ ps) (old ∷ js)))
  first_put p ps old new js q a = ⊎_elim
      (λ s. at_first p ps new js q a s ∙ sym (ap (λ b. cond b (option_map nm new) (find name_cmp q (row_joints nets (p ∷ ps) (old ∷ js)))) (ap (λ x. eq_by_cmp name_cmp x p.0) s ∙ cmp_itself p.0)))
      (λ n. past_first p ps new js q n ∙ sym (ap (λ b. cond b (option_map nm new) (find name_cmp q (row_joints nets (p ∷ ps) (old ∷ js)))) (cmp_apart q p.0 n) ∙ past_first p ps old js q n))
      (same_name q p.0)

  joint_put_at : (ps : List (Name × Role)) (js : List (Option ℕ)) (k : ℕ) (p : Name × Role) (new : Option ℕ) (q : Name) → AreDistinctNames (map (λ p. p.0) ps) → slice_get ps k ≡ Some p → k < length js → find name_cmp q (row_joints nets ps (slice_set js k new)) ≡ cond (eq_by_cmp name_cmp q p.0) (option_map nm new) (find name_cmp q (row_joints nets ps js))
  joint_put_at [] js k p new q a e h = absurd (not_None (sym e))
  joint_put_at (x ∷ ps) [] k p new q a e h = absurd (omega (arith, h))
  joint_put_at (x ∷ ps) (old ∷ js) zero p new q a e h =
      first_put x ps old new js q a
      ∙ ap (λ (y : Name × Role). cond (eq_by_cmp name_cmp q y.0) (option_map nm new) (find name_cmp q (row_joints nets (x ∷ ps) (old ∷ js)))) (same_Some e)
  joint_put_at (x ∷ ps) (None ∷ js) (suc k) p new q a e h = joint_put_at ps js k p new q (apart_rest x.0 (map (λ p. p.0) ps) a) e (omega (arith, h))
  joint_put_at (x ∷ ps) (Some i ∷ js) (suc k) p new q a e h =
      ap (cond (eq_by_cmp name_cmp q x.0) (Some (nm i))) (joint_put_at ps js k p new q (apart_rest x.0 (map (λ p. p.0) ps) a) e (omega (arith, h)))
      ∙ swap (eq_by_cmp name_cmp q x.0) (eq_by_cmp name_cmp q p.0) (nm i) (option_map nm new) (find name_cmp q (row_joints nets ps js)) (λ f g.
      apart_first x.0 (map (λ p. p.0) ps) a k p.0 (name_of_row (λ p. p.0) ps k p e) (sym (same_of_cmp q p.0 g) ∙ same_of_cmp q x.0 f))

  -- what a row's row_joints say under each pin's name after one of them changed
  pub joined_put : (r : CompRow) (n k : ℕ) (p : Name × Role) (new : Option ℕ) (q : Name) → IsRow n r → slice_get (pins r) k ≡ Some p → get (from_entries {R = name_cmp} (row_joints nets (pins r) (slice_set r.joined k new))) q ≡ cond (eq_by_cmp name_cmp q p.0) (option_map nm new) (get (component nets r).joined q)
  joined_put r n k p new q row e =
      let w = slice_get_within (pins r) k p e in
      get-from_entries nat_list_cmp_total (row_joints nets (pins r) (slice_set r.joined k new)) q
      ∙ joint_put_at (pins r) r.joined k p new q row.kind.apart e (omega (arith, w, row.each_pin))
      ∙ ap (cond (eq_by_cmp name_cmp q p.0) (option_map nm new)) (sym (get-from_entries nat_list_cmp_total (row_joints nets (pins r) r.joined) q))

-- ---- one row of a list

module _ {R X : Type 0} (name : R → Name) (f : R → X) where
  abbrev entry : R → Name × X
  entry r = (name r, f r)

  shadow : (b : Bool) (v w : X) (rest : Option X) → cond b (Some v) rest ≡ cond b (Some v) (cond b (Some w) rest)
  shadow true v w rest = refl
  shadow false v w rest = refl

  row_put_at : (rows : List R) (c : ℕ) (r s : R) (q : Name) → AreDistinctNames (map name rows) → slice_get rows c ≡ Some r → name s ≡ name r → find name_cmp q (map entry (slice_set rows c s)) ≡ cond (eq_by_cmp name_cmp q (name r)) (Some (f s)) (find name_cmp q (map entry rows))
  row_put_at [] c r s q a e n = absurd (not_None (sym e))
  row_put_at (x ∷ rows) zero r s q a e n =
      ap (λ m. cond (eq_by_cmp name_cmp q m) (Some (f s)) (find name_cmp q (map entry rows))) n
      ∙ shadow (eq_by_cmp name_cmp q (name r)) (f s) (f x) (find name_cmp q (map entry rows))
      ∙ ap (λ (y : R). cond (eq_by_cmp name_cmp q (name r)) (Some (f s)) (cond (eq_by_cmp name_cmp q (name y)) (Some (f x)) (find name_cmp q (map entry rows)))) (sym (same_Some e))
  row_put_at (x ∷ rows) (suc c) r s q a e n =
      ap (cond (eq_by_cmp name_cmp q (name x)) (Some (f x))) (row_put_at rows c r s q (apart_rest (name x) (map name rows) a) e n)
      ∙ swap (eq_by_cmp name_cmp q (name x)) (eq_by_cmp name_cmp q (name r)) (f x) (Some (f s)) (find name_cmp q (map entry rows)) (λ g h.
      apart_first (name x) (map name rows) a c (name r) (name_of_row name rows c r e) (sym (same_of_cmp q (name r) h) ∙ same_of_cmp q (name x) g))

  -- a row that changes is the entry under its name
  pub row_put : (rows : List R) (c : ℕ) (r s : R) → AreDistinctNames (map name rows) → slice_get rows c ≡ Some r → name s ≡ name r → from_entries {R = name_cmp} (map entry (slice_set rows c s)) ≡ insert (from_entries (map entry rows)) (name r) (f s)
  row_put rows c r s a e n = same_map nat_list_cmp_total exact_bytes _ _ (λ q.
      get-from_entries nat_list_cmp_total (map entry (slice_set rows c s)) q
      ∙ row_put_at rows c r s q a e n
      ∙ sym (get-insert nat_list_cmp_total (from_entries (map entry rows)) (name r) (f s) q ∙ ap (cond (eq_by_cmp name_cmp q (name r)) (Some (f s))) (get-from_entries nat_list_cmp_total (map entry rows) q)))

-- ---- tie nets

or_swap : (a b c : Bool) → (a || (b || c)) ≡ (b || (a || c))
or_swap true true c = refl
or_swap true false c = refl
or_swap false b c = refl

or_same : (a c : Bool) → (a || c) ≡ (a || (a || c))
or_same true c = refl
or_same false c = refl

tie_at : (rows : List NetRow) (n : ℕ) (r : NetRow) (q : Name) → slice_get rows n ≡ Some r → list_any (eq_by_cmp name_cmp q) (map (λ r. r.name) (filter (λ r. r.tie) (with_tie rows n))) ≡ (eq_by_cmp name_cmp q r.name || list_any (eq_by_cmp name_cmp q) (map (λ r. r.name) (filter (λ r. r.tie) rows)))
tie_at [] n r q e = absurd (not_None (sym e))
tie_at (x ∷ rows) zero r q e = go x.tie ∙ ap (λ (y : NetRow). eq_by_cmp name_cmp q y.name || list_any (eq_by_cmp name_cmp q) (map (λ r. r.name) (filter (λ r. r.tie) (x ∷ rows)))) (same_Some e)
  where
    go : (t : Bool) → (eq_by_cmp name_cmp q x.name || list_any (eq_by_cmp name_cmp q) (map (λ r. r.name) (filter (λ r. r.tie) rows))) ≡ (eq_by_cmp name_cmp q x.name || list_any (eq_by_cmp name_cmp q) (map (λ r. r.name) (cond t (x ∷ filter (λ r. r.tie) rows) (filter (λ r. r.tie) rows))))
    go true = or_same (eq_by_cmp name_cmp q x.name) _
    go false = refl
tie_at (x ∷ rows) (suc n) r q e = go x.tie (tie_at rows n r q e)
  where
    go : (t : Bool) → list_any (eq_by_cmp name_cmp q) (map (λ r. r.name) (filter (λ r. r.tie) (with_tie rows n))) ≡ (eq_by_cmp name_cmp q r.name || list_any (eq_by_cmp name_cmp q) (map (λ r. r.name) (filter (λ r. r.tie) rows))) → list_any (eq_by_cmp name_cmp q) (map (λ r. r.name) (cond t (x ∷ filter (λ r. r.tie) (with_tie rows n)) (filter (λ r. r.tie) (with_tie rows n)))) ≡ (eq_by_cmp name_cmp q r.name || list_any (eq_by_cmp name_cmp q) (map (λ r. r.name) (cond t (x ∷ filter (λ r. r.tie) rows) (filter (λ r. r.tie) rows))))
    go true h = ap (λ b. eq_by_cmp name_cmp q x.name || b) h ∙ or_swap (eq_by_cmp name_cmp q x.name) (eq_by_cmp name_cmp q r.name) _
    go false h = h

pub tied_set : (rows : List NetRow) (n : ℕ) (r : NetRow) → slice_get rows n ≡ Some r → set.from_list {R = name_cmp} (map (λ r. r.name) (filter (λ r. r.tie) (with_tie rows n))) ≡ set.insert (set.from_list (map (λ r. r.name) (filter (λ r. r.tie) rows))) r.name
tied_set rows n r e = set.same_set nat_list_cmp_total exact_bytes _ _ (λ q.
    set.contains-from_list nat_list_cmp_total _ q
    ∙ tie_at rows n r q e
    ∙ sym (set.contains-insert nat_list_cmp_total _ r.name q ∙ ap (λ b. eq_by_cmp name_cmp q r.name || b) (set.contains-from_list nat_list_cmp_total _ q)))
