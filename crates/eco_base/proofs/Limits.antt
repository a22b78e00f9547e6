-- The netlist of an open base keeps the limits of its design.
use Rattle.std.proofs.Common.{◌≡◌, ◌≢◌, ℕ, suc, ◌≤◌, Bool, true, false, cond, not, ◌||◌, ◌&&◌, List, [], ◌∷◌, ◌++◌, map, length, Option, Some, None, is_some, count_by, refl, sym, ap, ◌∙◌, subst, arith, slice_get, inl, inr, ⊎_elim, length-append, true≢false}
use Rattle.std.specs.List.{list_any, flat_map, sum_by}
use Rattle.std.specs.Str.{bytes_eq}
use Rattle.std.specs.FinMap.{get}
use Rattle.std.proofs.lemmas.Bool.{and_parts}
use Rattle.std.proofs.lemmas.Grind.{flat_map-append}
use Rattle.std.proofs.lemmas.List.{length-map}
use Rattle.std.proofs.lemmas.List.Sums.{sum_by-cons}
use Rattle.eco_common.specs.declared.limits.TheConstants.{MAX_COMPS, MAX_JOINTS}
use Rattle.eco_def.specs.Design as said
use Rattle.eco_def.specs.Grammar.{joint_count}
use Rattle.eco_def.specs.Named.{NamedJoint, NamedNet, NamedDesign, comp_names, pin_names, joint_names, net_names}
use Rattle.eco_def.specs.View.{design_in}
use Rattle.eco_issued_laws.specs.Changes.{has_statement, is_no_component, has_net, statements}
use Rattle.eco_net.specs.declared.rows.NetRow.{NetRow}
use Rattle.eco_net.specs.declared.rows.CompRow.{CompRow}
use Rattle.eco_net.specs.Netlist.{Name, Netlist, Component, Role, IsNet}
use Rattle.eco_net.specs.Listing.{Listing, netlist, component, pins, net_name, AreDistinctNames}
use Rattle.eco_net.specs.Kept.{IsListing}
use Rattle.eco_net.specs.JoinedPins.{joined_pins}
use Rattle.eco_net.proofs.Basics.{Has, not_None, has_map, has_append_left, has_append_right}
use Rattle.eco_net.proofs.Places.{row_of_name, name_of_row}
use Rattle.eco_net.proofs.GateNames.{at_has}
use Rattle.eco_net.proofs.Named.{apart_first, apart_rest, net_is, comp_is, joined_is}
use Rattle.eco_net.proofs.JoinedNames.{joined_count, joined_rows}
use Rattle.eco_elaborate.specs.Netlists.{net_supply, names_pin}
use Rattle.eco_elaborate.proofs.Names.{same_name}
use Rattle.eco_elaborate.proofs.Members.{any_has, has_of_append}
use Rattle.eco_elaborate.proofs.Stating.{in_flat_map}
use Rattle.eco_elaborate.proofs.Lookups as lookups
use Rattle.eco_elaborate.proofs.Found.{comp_said, on_statement}
use Rattle.eco_elaborate.proofs.Telling.{pin_said}
use Rattle.eco_net.specs.Bases.{bare}
use Rattle.eco_patch_laws.proofs.Start.{in_full}
use Rattle.eco_base.proofs.Ranges.{centred}
use Rattle.eco_base.specs.Texts.{TextParts, AreRead}
use Rattle.eco_base.specs.Joined.{design_names, kinds}
use Rattle.eco_base.specs.Stocks.{full_netlist}
use Rattle.eco_base.specs.Bases.{BaseParts, frozen, IsOpen}
use Rattle.eco_base.specs.Limits.{KeepsLimits}
use Rattle.eco_base.proofs.OpenBases.{no_blank}

-- ---- a list without repeats, all of it in another, is no longer than that

module _ {A : Type 0} where
  -- none stands twice
  abbrev Once : List A → Type 0
  Once [] = Unit {0}
  Once (x ∷ xs) = (Has xs x → ⊥) × Once xs

  without : (ys : List A) (x : A) → Has ys x → List A
  without [] x h = []
  without (y ∷ ys) x (inl e) = ys
  without (y ∷ ys) x (inr h) = y ∷ without ys x h

  one_less : (ys : List A) (x : A) (h : Has ys x) → suc (length (without ys x h)) ≡ length ys
  unfolding without
  one_less [] x h = absurd h
  one_less (y ∷ ys) x (inl e) = refl
  one_less (y ∷ ys) x (inr h) = ap suc (one_less ys x h)

  still_has : (ys : List A) (x : A) (h : Has ys x) (n : A) → n ≢ x → Has ys n → Has (without ys x h) n
  unfolding without
  still_has [] x h n a i = i
  still_has (y ∷ ys) x (inl e) n a (inl f) = absurd (a (sym f ∙ e))
  still_has (y ∷ ys) x (inl e) n a (inr i) = i
  still_has (y ∷ ys) x (inr h) n a (inl f) = inl f
  still_has (y ∷ ys) x (inr h) n a (inr i) = inr (still_has ys x h n a i)

  no_more : (xs ys : List A) → Once xs → ((x : A) → Has xs x → Has ys x) → length xs ≤ length ys
  no_more [] ys a h = omega arith
  no_more (x ∷ xs) ys a h =
      let here : Has ys x = h x (inl refl) in
      let rest : length xs ≤ length (without ys x here) = no_more xs (without ys x here) a.1 (λ n i. still_has ys x here n (λ e. a.0 (subst (Has xs) e i)) (h n (inr i))) in
      omega (arith, rest, one_less ys x here)

  once_append : (xs ys : List A) → Once xs → Once ys → ((x : A) → Has xs x → Has ys x → ⊥) → Once (xs ++ ys)
  once_append [] ys a b c = b
  once_append (x ∷ xs) ys a b c = (λ h. ⊎_elim a.0 (λ i. c x (inl refl) i) (has_of_append xs ys x h), once_append xs ys a.1 b (λ z i j. c z (inr i) j))

once_apart : (ns : List Name) → AreDistinctNames ns → Once ns
once_apart [] a = tt
once_apart (n ∷ ns) a = (λ h. let i = at_has ns n h in apart_first n ns a i.0 n i.1 refl, once_apart ns (apart_rest n ns a))

-- ---- the pins of components that are on nets

abbrev row_pins : Name → List (Name × Role) → List (Option ℕ) → List (Name × Name)
row_pins c [] js = []
row_pins c (p ∷ ps) [] = []
row_pins c (p ∷ ps) (None ∷ js) = row_pins c ps js
row_pins c (p ∷ ps) (Some i ∷ js) = (c, p.0) ∷ row_pins c ps js

abbrev IsRowPin : Name → List (Name × Role) → List (Option ℕ) → Name × Name → Type 0
IsRowPin c ps js x = (k : ℕ) × (p : Name × Role) × (i : ℕ) × (slice_get ps k ≡ Some p) × (slice_get js k ≡ Some (Some i)) × ((c, p.0) ≡ x)

row_has : (c : Name) (ps : List (Name × Role)) (js : List (Option ℕ)) (x : Name × Name) → Has (row_pins c ps js) x → IsRowPin c ps js x
row_has c [] js x h = absurd h
row_has c (p ∷ ps) [] x h = absurd h
row_has c (p ∷ ps) (None ∷ js) x h = let r = row_has c ps js x h in (suc r.0, r.1, r.2, r.3, r.4, r.5)
row_has c (p ∷ ps) (Some i ∷ js) x (inl e) = (0, p, i, refl, refl, e)
row_has c (p ∷ ps) (Some i ∷ js) x (inr h) = let r = row_has c ps js x h in (suc r.0, r.1, r.2, r.3, r.4, r.5)

row_length : (c : Name) (ps : List (Name × Role)) (js : List (Option ℕ)) → length js ≡ length ps → length (row_pins c ps js) ≡ count_by is_some js
row_length c [] [] l = refl
row_length c [] (j ∷ js) l = absurd (omega (arith, l))
row_length c (p ∷ ps) [] l = absurd (omega (arith, l))
row_length c (p ∷ ps) (None ∷ js) l = omega (arith, row_length c ps js (omega (arith, l)), sum_by-cons (λ (j : Option ℕ). cond (is_some j) 1 0) None js)
row_length c (p ∷ ps) (Some i ∷ js) l = omega (arith, row_length c ps js (omega (arith, l)), sum_by-cons (λ (j : Option ℕ). cond (is_some j) 1 0) (Some i) js)

row_once : (c : Name) (ps : List (Name × Role)) (js : List (Option ℕ)) → AreDistinctNames (map (λ p. p.0) ps) → Once (row_pins c ps js)
row_once c [] js a = tt
row_once c (p ∷ ps) [] a = tt
row_once c (p ∷ ps) (None ∷ js) a = row_once c ps js (apart_rest p.0 (map (λ p. p.0) ps) a)
row_once c (p ∷ ps) (Some i ∷ js) a = (
  λ h.
      let r = row_has c ps js (c, p.0) h in
      apart_first p.0 (map (λ p. p.0) ps) a r.0 r.1.0 (name_of_row (λ (p : Name × Role). p.0) ps r.0 r.1 r.3) (ap (λ (z : Name × Name). z.1) r.5),
  row_once c ps js (apart_rest p.0 (map (λ p. p.0) ps) a),
)

abbrev all_pins : List CompRow → List (Name × Name)
all_pins [] = []
all_pins (r ∷ rows) = row_pins r.name (pins r) r.joined ++ all_pins rows

all_has : (rows : List CompRow) (x : Name × Name) → Has (all_pins rows) x → (k : ℕ) × (r : CompRow) × (slice_get rows k ≡ Some r) × Has (row_pins r.name (pins r) r.joined) x
all_has [] x h = absurd h
all_has (r ∷ rows) x h = ⊎_elim
    (λ i. (0, r, refl, i))
    (λ i. let v = all_has rows x i in (suc v.0, v.1, v.2, v.3))
    (has_of_append (row_pins r.name (pins r) r.joined) (all_pins rows) x h)

all_length : (rows : List CompRow) → ((k : ℕ) (r : CompRow) → slice_get rows k ≡ Some r → length r.joined ≡ length (pins r)) → length (all_pins rows) ≡ sum_by joined_count rows
all_length [] each = refl
all_length (r ∷ rows) each = omega (
  arith,
  length-append (row_pins r.name (pins r) r.joined) (all_pins rows),
  row_length r.name (pins r) r.joined (each 0 r refl),
  all_length rows (λ k. each (suc k)),
  sum_by-cons joined_count r rows,
)

all_once : (rows : List CompRow) → AreDistinctNames (map (λ r. r.name) rows) → ((k : ℕ) (r : CompRow) → slice_get rows k ≡ Some r → AreDistinctNames (map (λ p. p.0) (pins r))) → Once (all_pins rows)
all_once [] a each = tt
all_once (r ∷ rows) a each =
    once_append (row_pins r.name (pins r) r.joined) (all_pins rows)
    (row_once r.name (pins r) r.joined (each 0 r refl))
    (all_once rows (apart_rest r.name (map (λ r. r.name) rows) a) (λ k. each (suc k)))
    (λ x h i.
    let u = row_has r.name (pins r) r.joined x h in
    let v = all_has rows x i in
    let w = row_has v.1.name (pins v.1) v.1.joined x v.3 in
    apart_first r.name (map (λ r. r.name) rows) a v.0 v.1.name (name_of_row (λ (r : CompRow). r.name) rows v.0 v.1 v.2) (ap (λ (z : Name × Name). z.0) (w.5 ∙ sym u.5)))

-- ---- the joints of a design

abbrev joint_pin : NamedJoint → Name × Name
joint_pin j = (j.comp, j.pin)

abbrev joint_pins : List NamedNet → List (Name × Name)
joint_pins ss = flat_map (λ s. map joint_pin s.joints) ss

joints_length : (ns : List said.Net) → length (joint_pins (map net_names ns)) ≡ joint_count ns
joints_length [] = refl
joints_length (n ∷ ns) = omega (
  arith,
  length-append (map joint_pin (map joint_names n.joints)) (joint_pins (map net_names ns)),
  length-map (map joint_names n.joints) joint_pin,
  length-map n.joints joint_names,
  joints_length ns,
  sum_by-cons (λ (n : said.Net). length n.joints) n ns,
)

-- ---- the base

module _ (t : TextParts) (read : AreRead t) (L : Listing) (is : IsListing L) (same : netlist L ≡ bare (frozen t)) where
  abbrev design : said.Design
  design = design_in t.text t.design

  abbrev d : NamedDesign
  d = design_names t

  abbrev ties : List Name
  ties = t.desk.low ∷ t.desk.high ∷ []

  -- the names that make nets
  abbrev said_nets : List Name
  said_nets = map (λ s. s.name) (statements d) ++ map (λ p. p.net) d.pins

  net_stands : (n : Name) → IsNet (full_netlist t) n → Has said_nets n
  net_stands n i = go (has_net d n) refl (sym (lookups.net_is (kinds t) ties d n) ∙ i.1)
    where
      by_part : (a c : Bool) → has_statement (statements d) n ≡ a → list_any (λ p. bytes_eq p.net n) d.pins ≡ c → (a || c) ≡ true → Has said_nets n
      by_part true c e f g =
          let s = any_has (λ s. bytes_eq s.name n) (statements d) e in
          has_append_left (map (λ s. s.name) (statements d)) (map (λ p. p.net) d.pins) n (subst (Has (map (λ s. s.name) (statements d))) (same_name s.0.name n s.2) (has_map (λ s. s.name) (statements d) s.0 s.1))
      by_part false true e f g =
          let p = any_has (λ p. bytes_eq p.net n) d.pins f in
          has_append_right (map (λ s. s.name) (statements d)) (map (λ p. p.net) d.pins) n (subst (Has (map (λ p. p.net) d.pins)) (same_name p.0.net n p.2) (has_map (λ p. p.net) d.pins p.0 p.1))
      by_part false false e f g = absurd (true≢false (sym g))

      go : (b : Bool) → has_net d n ≡ b → cond b (Some (net_supply d n)) None ≡ Some i.0 → Has said_nets n
      go true e f = by_part (has_statement (statements d) n) (list_any (λ p. bytes_eq p.net n) d.pins) refl refl e
      go false e f = absurd (not_None (sym f))

  few_nets : length L.nets ≤ 2000000
  few_nets =
      let all : length (map (λ (r : NetRow). r.name) L.nets) ≤ length said_nets = no_more (map (λ r. r.name) L.nets) said_nets (once_apart (map (λ r. r.name) L.nets) is.nets) (λ n h.
      let i = at_has (map (λ (r : NetRow). r.name) L.nets) n h in
      let r = row_of_name (λ r. r.name) L.nets i.0 n i.1 in
      net_stands n (r.0.supply, ap (λ (N : Netlist). get N.nets n) (sym same) ∙ ap (get (netlist L).nets) (sym r.2) ∙ net_is L is i.0 r.0 r.1)) in
      let limits = read.reading.limits in
      omega (arith, all, length-map L.nets (λ r. r.name), length-append (map (λ s. s.name) (statements d)) (map (λ p. p.net) d.pins), length-map (statements d) (λ s. s.name), length-map d.pins (λ p. p.net), length-append d.special d.nets, length-map design.special net_names, length-map design.nets.nets net_names, length-map design.pins pin_names, limits.nets, limits.pins)

  -- a component that is left is one of the design
  found : (k : ℕ) (r : CompRow) → slice_get L.comps k ≡ Some r → get (full_netlist t).comps r.name ≡ Some (component L.nets r)
  found k r e = in_full (frozen t) r.name (component L.nets r) (ap (λ (N : Netlist). get N.comps r.name) (sym same) ∙ comp_is L is k r e)

  comp_stands : (c : Name) (x : Component) → get (full_netlist t).comps c ≡ Some x → Has (map (λ a. a.name) d.comps) c
  comp_stands c x e = let y = comp_said (kinds t) ties d c x e in subst (Has (map (λ a. a.name) d.comps)) y.2 (has_map (λ a. a.name) d.comps y.0.0 y.1)

  few_comps : length L.comps ≤ MAX_COMPS
  few_comps =
      let all : length (map (λ (r : CompRow). r.name) L.comps) ≤ length (map (λ a. a.name) d.comps) = no_more (map (λ r. r.name) L.comps) (map (λ a. a.name) d.comps) (once_apart (map (λ r. r.name) L.comps) is.comps) (λ n h.
      let i = at_has (map (λ (r : CompRow). r.name) L.comps) n h in
      let r = row_of_name (λ r. r.name) L.comps i.0 n i.1 in
      subst (Has (map (λ a. a.name) d.comps)) r.2 (comp_stands r.0.name (component L.nets r.0) (found i.0 r.0 r.1))) in
      omega (arith, all, length-map L.comps (λ r. r.name), length-map d.comps (λ a. a.name), length-map design.comps comp_names, read.reading.limits.comps)

  -- a pin on a net has a joint
  joint_stands : (c p n : Name) (x : Component) → get (full_netlist t).comps c ≡ Some x → get x.joined p ≡ Some n → Has (joint_pins (statements d)) (c, p)
  joint_stands c p n x e f =
      let y = comp_said (kinds t) ties d c x e in
      let on = (pin_said (kinds t) d y.0.0 y.0.1 p n (ap (λ (z : Component). get z.joined p) y.4 ∙ f)).1 in
      let s = on_statement d y.0.0.name p n on in
      let j = any_has (names_pin y.0.0.name p) s.0.joints s.3 in
      let both = and_parts (not (is_no_component j.0.comp)) (bytes_eq y.0.0.name j.0.comp && bytes_eq p j.0.pin) j.2 in
      let named = and_parts (bytes_eq y.0.0.name j.0.comp) (bytes_eq p j.0.pin) both.1 in
      let comp : j.0.comp ≡ c = sym (same_name y.0.0.name j.0.comp named.0) ∙ y.2 in
      let pin : j.0.pin ≡ p = sym (same_name p j.0.pin named.1) in
      subst (Has (joint_pins (statements d))) (λ i. (comp i, pin i)) (in_flat_map (λ s. map joint_pin s.joints) (statements d) s.0 (joint_pin j.0) s.1 (has_map joint_pin s.0.joints j.0 j.1))

  pin_stands : (x : Name × Name) → Has (all_pins L.comps) x → Has (joint_pins (statements d)) x
  pin_stands x h =
      let u = all_has L.comps x h in
      let w = row_has u.1.name (pins u.1) u.1.joined x u.3 in
      let joined = joined_is L is u.0 u.1 w.0 w.1 (Some w.2) u.2 w.3 w.4 in
      subst (Has (joint_pins (statements d))) w.5 (joint_stands u.1.name w.1.0 (net_name L.nets w.2) (component L.nets u.1) (found u.0 u.1 u.2) joined)

  few_pins : joined_pins (netlist L) ≤ MAX_JOINTS
  few_pins =
      let all : length (all_pins L.comps) ≤ length (joint_pins (statements d)) = no_more (all_pins L.comps) (joint_pins (statements d)) (all_once L.comps is.comps (λ k r e. (is.rows k r e).kind.apart)) pin_stands in
      omega (
        arith,
        all,
        all_length L.comps (λ k r e. (is.rows k r e).each_pin),
        joined_rows L is,
        ap length (flat_map-append (λ (s : NamedNet). map joint_pin s.joints) d.special d.nets),
        length-append (joint_pins d.special) (joint_pins d.nets),
        joints_length design.special,
        joints_length design.nets.nets,
        read.reading.limits.joints,
      )

  kept : KeepsLimits L
  kept = record {
    nets = few_nets;
    comps = few_comps;
    pins = few_pins;
    names = λ c x e. no_blank t read c x (in_full (frozen t) c x (ap (λ (N : Netlist). get N.comps c) (sym same) ∙ e));
    centres = λ c x e. centred t read (t.desk.low ∷ t.desk.high ∷ []) c x (in_full (frozen t) c x (ap (λ (N : Netlist). get N.comps c) (sym same) ∙ e));
  }

pub limits_kept : (b : BaseParts) → IsOpen b → IsListing b.listing → KeepsLimits b.listing
limits_kept b open' is = kept b.texts open'.read b.listing is open'.same
