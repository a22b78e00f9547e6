-- Rows and pins by number, and what the netlist has under their names
use Rattle.std.proofs.Common.{◌≡◌, ◌≢◌, ℕ, zero, suc, ◌<◌, Bool, cond, List, [], ◌∷◌, map, length, Option, Some, None, refl, sym, ap, ap₂, ◌∙◌, arith, slice_get, ⊎_elim}
use Rattle.std.specs.Option.{option_map}
use Rattle.std.specs.Ordering.{eq_by_cmp}
use Rattle.std.specs.Cmp.Lexicographic.{nat_list_cmp_total}
use Rattle.std.specs.FinMap.{get, find, get-from_entries}
use Rattle.eco_net.specs.declared.rows.NetRow.{NetRow}
use Rattle.eco_net.specs.declared.rows.CompRow.{CompRow}
use Rattle.eco_net.specs.declared.rows.TopRow.{TopRow}
use Rattle.eco_net.specs.Netlist.{Name, name_cmp, Component, Top, Role, role_of}
use Rattle.eco_net.specs.Listing.{Listing, netlist, component, top, pins, row_joints, net_name, AreDistinctNames}
use Rattle.eco_net.specs.Kept.{IsRow, IsListing}
use Rattle.eco_net.proofs.Basics.{same_Some, not_None, same_name, cmp_itself, cmp_apart, find_first, find_rest}
use Rattle.eco_net.proofs.Places.{at_place, name_of_row, row_found, found_row}

-- ---- pairs by their names

pub apart_rest : (n : Name) (ns : List Name) → AreDistinctNames (n ∷ ns) → AreDistinctNames ns
apart_rest n ns a i j m e f = let z : suc i ≡ suc j = a (suc i) (suc j) m e f in omega (arith, z)

pub apart_first : (n : Name) (ns : List Name) → AreDistinctNames (n ∷ ns) → (i : ℕ) (m : Name) → slice_get ns i ≡ Some m → m ≢ n
apart_first n ns a i m e s = let z : 0 ≡ suc i = a 0 (suc i) m (ap Some (sym s)) e in absurd (omega (arith, z))

pub find_at : {X : Type 0} (es : List (Name × X)) (i : ℕ) (e : Name × X) → AreDistinctNames (map (λ e. e.0) es) → slice_get es i ≡ Some e → find name_cmp e.0 es ≡ Some e.1
find_at [] i e a h = absurd (not_None (sym h))
find_at (d ∷ es) zero e a h =
    ap (λ b. cond b (Some d.1) (find name_cmp e.0 es)) (ap (λ x. eq_by_cmp name_cmp x.0 d.0) (sym (same_Some h)) ∙ cmp_itself d.0)
    ∙ ap (λ x. Some x.1) (same_Some h)
find_at (d ∷ es) (suc i) e a h =
    ap (λ b. cond b (Some d.1) (find name_cmp e.0 es)) (cmp_apart e.0 d.0 (apart_first d.0 (map (λ e. e.0) es) a i e.0 (name_of_row (λ e. e.0) es i e h)))
    ∙ find_at es i e (apart_rest d.0 (map (λ e. e.0) es) a) h

pub found_at : {X : Type 0} (es : List (Name × X)) (q : Name) (x : X) → find name_cmp q es ≡ Some x → (i : ℕ) × (slice_get es i ≡ Some (q, x))
found_at [] q x e = absurd (not_None (sym e))
found_at {X = X} (d ∷ es) q x e = ⊎_elim
    (λ s. (0, ap₂ {C = Option (Name × X)} (λ m y. Some (m, y)) (sym s) (same_Some (find_first d es q s e))))
    (λ n. let w = found_at es q x (find_rest d es q n e) in (suc w.0, w.1))
    (same_name q d.0)

-- ---- row_joints by their pins' names

module _ (nets : List NetRow) where
  pub joint_none : (ps : List (Name × Role)) (js : List (Option ℕ)) (q : Name) → ((i : ℕ) → slice_get (map (λ p. p.0) ps) i ≡ Some q → ⊥) → find name_cmp q (row_joints nets ps js) ≡ None
  joint_none [] js q a = refl
  joint_none (p ∷ ps) [] q a = refl
  joint_none (p ∷ ps) (None ∷ js) q a = joint_none ps js q (λ i. a (suc i))
  joint_none (p ∷ ps) (Some i ∷ js) q a =
      ap (λ b. cond b (Some (net_name nets i)) (find name_cmp q (row_joints nets ps js))) (cmp_apart q p.0 (λ s. a 0 (ap Some (sym s))))
      ∙ joint_none ps js q (λ i. a (suc i))

  pub joint_named : (ps : List (Name × Role)) (js : List (Option ℕ)) (k : ℕ) (p : Name × Role) (j : Option ℕ) → AreDistinctNames (map (λ p. p.0) ps) → slice_get ps k ≡ Some p → slice_get js k ≡ Some j → find name_cmp p.0 (row_joints nets ps js) ≡ option_map (net_name nets) j
  joint_named [] js k p j a e f = absurd (not_None (sym e))
  joint_named (x ∷ ps) [] k p j a e f = absurd (not_None (sym f))
  joint_named (x ∷ ps) (None ∷ js) zero p j a e f =
      joint_none ps js p.0 (λ i h. apart_first x.0 (map (λ p. p.0) ps) a i p.0 h (ap (λ p. p.0) (sym (same_Some e))))
      ∙ ap (option_map (net_name nets)) (same_Some f)
  joint_named (x ∷ ps) (Some i ∷ js) zero p j a e f =
      ap (λ b. cond b (Some (net_name nets i)) (find name_cmp p.0 (row_joints nets ps js))) (ap (λ y. eq_by_cmp name_cmp y.0 x.0) (sym (same_Some e)) ∙ cmp_itself x.0)
      ∙ ap (option_map (net_name nets)) (same_Some f)
  joint_named (x ∷ ps) (None ∷ js) (suc k) p j a e f = joint_named ps js k p j (apart_rest x.0 (map (λ p. p.0) ps) a) e f
  joint_named (x ∷ ps) (Some i ∷ js) (suc k) p j a e f =
      ap (λ b. cond b (Some (net_name nets i)) (find name_cmp p.0 (row_joints nets ps js))) (cmp_apart p.0 x.0 (apart_first x.0 (map (λ p. p.0) ps) a k p.0 (name_of_row (λ p. p.0) ps k p e)))
      ∙ joint_named ps js k p j (apart_rest x.0 (map (λ p. p.0) ps) a) e f

  pub named_joint : (ps : List (Name × Role)) (js : List (Option ℕ)) (q n : Name) → find name_cmp q (row_joints nets ps js) ≡ Some n → (k : ℕ) × (p : Name × Role) × (i : ℕ) × (slice_get ps k ≡ Some p) × (p.0 ≡ q) × (slice_get js k ≡ Some (Some i)) × (net_name nets i ≡ n)
  named_joint [] js q n e = absurd (not_None (sym e))
  named_joint (p ∷ ps) [] q n e = absurd (not_None (sym e))
  named_joint (p ∷ ps) (None ∷ js) q n e = let w = named_joint ps js q n e in (suc w.0, w.1, w.2, w.3, w.4, w.5, w.6)
  named_joint (p ∷ ps) (Some i ∷ js) q n e = ⊎_elim
      (λ s. (0, p, i, refl, sym s, refl, same_Some (find_first (p.0, net_name nets i) (row_joints nets ps js) q s e)))
      (λ a. let w = named_joint ps js q n (find_rest (p.0, net_name nets i) (row_joints nets ps js) q a e) in (suc w.0, w.1, w.2, w.3, w.4, w.5, w.6))
      (same_name q p.0)

-- ---- a known pin of a component

pub pin_known : (n : ℕ) (r : CompRow) → IsRow n r → (k : ℕ) → k < length (pins r) → (p : Name × Role) × (slice_get (pins r) k ≡ Some p) × (j : Option ℕ) × (slice_get r.joined k ≡ Some j)
pin_known n r row k h =
    let p = at_place (pins r) k h in
    let j = at_place r.joined k (omega (arith, row.each_pin, h)) in
    (p.0, p.1, j.0, j.1)

module _ (L : Listing) (is : IsListing L) where
  pub comp_is : (c : ℕ) (r : CompRow) → slice_get L.comps c ≡ Some r → get (netlist L).comps r.name ≡ Some (component L.nets r)
  comp_is c r e = found_row (λ r. r.name) (component L.nets) L.comps c r is.comps e

  pub top_is : (t : ℕ) (r : TopRow) → slice_get L.tops t ≡ Some r → get (netlist L).tops r.name ≡ Some (top L.nets r)
  top_is t r e = found_row (λ r. r.name) (top L.nets) L.tops t r is.tops e

  pub net_is : (n : ℕ) (r : NetRow) → slice_get L.nets n ≡ Some r → get (netlist L).nets r.name ≡ Some r.supply
  net_is n r e = found_row (λ r. r.name) (λ r. r.supply) L.nets n r is.nets e

  pub role_is : (c : ℕ) (r : CompRow) (k : ℕ) (p : Name × Role) → slice_get L.comps c ≡ Some r → slice_get (pins r) k ≡ Some p → role_of (component L.nets r) p.0 ≡ Some p.1
  role_is c r k p e f = find_at (pins r) k p (is.rows c r e).kind.apart f

  pub joined_is : (c : ℕ) (r : CompRow) (k : ℕ) (p : Name × Role) (j : Option ℕ) → slice_get L.comps c ≡ Some r → slice_get (pins r) k ≡ Some p → slice_get r.joined k ≡ Some j → get (component L.nets r).joined p.0 ≡ option_map (net_name L.nets) j
  joined_is c r k p j e f g = get-from_entries nat_list_cmp_total (row_joints L.nets (pins r) r.joined) p.0 ∙ joint_named L.nets (pins r) r.joined k p j (is.rows c r e).kind.apart f g

  -- what stands under a component's name
  pub comp_of : (q : Name) (x : Component) → get (netlist L).comps q ≡ Some x → (c : ℕ) × (r : CompRow) × (slice_get L.comps c ≡ Some r) × (r.name ≡ q) × (component L.nets r ≡ x)
  comp_of q x e = row_found (λ r. r.name) (component L.nets) L.comps q x e

  pub top_of : (q : Name) (x : Top) → get (netlist L).tops q ≡ Some x → (t : ℕ) × (r : TopRow) × (slice_get L.tops t ≡ Some r) × (r.name ≡ q) × (top L.nets r ≡ x)
  top_of q x e = row_found (λ r. r.name) (top L.nets) L.tops q x e

  pub net_found : (q : Name) (s : Option Bool) → get (netlist L).nets q ≡ Some s → (n : ℕ) × (r : NetRow) × (slice_get L.nets n ≡ Some r) × (r.name ≡ q) × (r.supply ≡ s)
  net_found q s e = row_found (λ r. r.name) (λ r. r.supply) L.nets q s e
