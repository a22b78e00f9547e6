-- The pins that are found of joints, by number and by name.
use Rattle.std.proofs.Common.{◌≡◌, ℕ, zero, suc, ◌+◌, ◌<◌, arith, Bool, true, false, not, cond, ◌&&◌, is_some, true≢false, List, [], ◌∷◌, ◌++◌, length, map, take, get_or, slice_get, Option, Some, None, refl, sym, ap, ◌∙◌, subst, ◌⊎◌, inl, inr, ⊎_elim, append_assoc}
use Rattle.std.specs.List.{Contains, filter}
use Rattle.std.specs.Option.{option_map, unwrap_or}
use Rattle.std.specs.Str.{bytes_eq}
use Rattle.std.specs.FinMap.{get}
use Rattle.std.proofs.lemmas.Option.{slice_get-map, slice_get-get_or, slice_get_within}
use Rattle.std.proofs.lemmas.List.{map-append, length-map, append-nil}
use Rattle.std.proofs.lemmas.List.Elements.{filter-append}
use Rattle.std.proofs.lemmas.Grind.{flat_map-append}
use Rattle.std.proofs.lemmas.Bool.{and_parts, and_from}
use Rattle.eco_def.specs.declared.design.Comp.{Comp}
use Rattle.eco_def.specs.declared.design.Joint.{Joint}
use Rattle.eco_def.specs.declared.design.NetStatement.{NetStatement}
use Rattle.eco_def.specs.Named.{NamedComp, NamedJoint, joint_names}
use Rattle.eco_def.specs.View.{joint_in}
use Rattle.eco_common.specs.Joints.{NewJoint}
use Rattle.eco_issued_laws.specs.Changes.{is_no_component}
use Rattle.eco_net.specs.declared.ids.CompId.{CompId}
use Rattle.eco_net.specs.declared.ids.FoundComp.{FoundComp}
use Rattle.eco_net.specs.declared.rows.CompRow.{CompRow}
use Rattle.eco_net.specs.declared.rows.NetRow.{NetRow}
use Rattle.eco_net.specs.Netlist.{Name, Role, Component, Netlist, IsPin, role_of}
use Rattle.eco_net.specs.Listing.{Listing, netlist, component, comp_names, net_names, net_name, pins, HasPin, FindsPin, FindsComp, AreDistinctNames}
use Rattle.eco_net.specs.Kept.{IsListing}
use Rattle.eco_net.proofs.Basics.{Has, contains_from_has, has_from_contains, has_map, has_found, same_Some, not_None}
use Rattle.eco_net.proofs.Effects.{comp_is, role_is, pin_row}
use Rattle.eco_net.proofs.Places.{row_of_name}
use Rattle.eco_elaborate.specs.declared.fault.DesignFault.{DesignFault}
use Rattle.eco_elaborate.specs.declared.fault.DesignFault.TheVariants.{UnknownMacro, UnknownPin, PinNetDiffers, SupplyDiffers, Memory}
use Rattle.eco_elaborate.specs.declared.joined_pin.JoinedPin.{JoinedPin}
use Rattle.eco_elaborate.specs.Stated.{named_comp, named_comps, named_joint, named_net, named_nets, joint_on_net, pins_among, stated_pins, all_pins_on}
use Rattle.eco_elaborate.specs.Stages.{row_name, pin_name, joint_of, joints_of, IsKnownJoint, FindsPinOf, FindsJoint, IsUnknownJoint, has_pin, known_pins, has_supply_pin, FindsPins, PinFault}
use Rattle.eco_elaborate.specs.Netlists.{Powers}
use Rattle.eco_elaborate.proofs.Names.{same_name, is_name}
use Rattle.eco_elaborate.proofs.Members.{has_of_append, any_has, has_any}
use Rattle.eco_elaborate.proofs.Adding.{mapped_more}
use Rattle.eco_elaborate.proofs.Fillers.{no_comp}

-- ---- a pin by the names of its component and itself

module _ (L : Listing) (is : IsListing L) (c : ℕ) (comp pin : Name) (e : slice_get (comp_names L) c ≡ Some comp) where
  -- the component has no such pin
  pub none_found : FindsPin (slice_get L.comps c) pin None → (x : Component) → get (netlist L).comps comp ≡ Some x → IsPin x pin → ⊥
  none_found f x g p =
      let r = row_of_name (λ (r : CompRow). r.name) L.comps c comp e in
      let none : Contains (map (λ p. p.0) (pins r.0)) pin → ⊥ = subst (λ o. FindsPin o pin None) r.1 f in
      let same : component L.nets r.0 ≡ x = same_Some (sym (comp_is L is c r.0 r.1) ∙ ap (get (netlist L).comps) r.2 ∙ g) in
      let q : IsPin (component L.nets r.0) pin = subst (λ (z : Component). IsPin z pin) (sym same) p in
      none (contains_from_has (map (λ p. p.0) (pins r.0)) pin (has_found (pins r.0) pin q.0 q.1))

  pub some_found : (k : ℕ) → FindsPin (slice_get L.comps c) pin (Some k) → HasPin (slice_get L.comps c) k × (row_name (slice_get L.comps c) ≡ comp) × (pin_name (slice_get L.comps c) k ≡ pin)
  some_found k f =
      let r = row_of_name (λ (r : CompRow). r.name) L.comps c comp e in
      let at : slice_get (map (λ p. p.0) (pins r.0)) k ≡ Some pin = subst (λ o. FindsPin o pin (Some k)) r.1 f in
      let has : k < length (pins r.0) = omega (arith, slice_get_within (map (λ p. p.0) (pins r.0)) k pin at, length-map (pins r.0) (λ p. p.0)) in
      subst (λ o. HasPin o k × (row_name o ≡ comp) × (pin_name o k ≡ pin)) (sym r.1)
      (has, r.2, ap (λ o. unwrap_or o []) (sym (slice_get-map (λ p. p.0) (pins r.0) k) ∙ at))

-- a known pin is one of a component
pub known_joint : (L : Listing) → IsListing L → (p : JoinedPin) → IsKnownJoint L p → (x : Component) × (get (netlist L).comps (joint_of L p).comp ≡ Some x) × IsPin x (joint_of L p).pin
known_joint L is p known =
    let w = pin_row L is p.comp.0 p.pin known.0 in
    let comp : (joint_of L p).comp ≡ w.row.name = ap row_name w.is in
    let pin : (joint_of L p).pin ≡ w.pin.0 = ap (λ o. pin_name o p.pin) w.is ∙ ap (λ o. unwrap_or (option_map (λ (q : Name × _). q.0) o) []) w.at in (
      component L.nets w.row,
      ap (get (netlist L).comps) comp ∙ comp_is L is p.comp.0 w.row w.is,
      subst (IsPin (component L.nets w.row)) (sym pin) (w.pin.1, role_is L is p.comp.0 w.row p.pin w.pin w.is w.at),
    )

-- ---- whether a component has a pin

module _ (N : Netlist) (c p : Name) where
  pub pin_is_known : (x : Component) → get N.comps c ≡ Some x → IsPin x p → has_pin (get N.comps c) p ≡ true
  pin_is_known x e pin = ap (λ o. has_pin o p) e ∙ ap is_some pin.1

  pub known_is_pin : has_pin (get N.comps c) p ≡ true → (x : Component) × (get N.comps c ≡ Some x) × IsPin x p
  known_is_pin e = go (get N.comps c) refl e
    where
      role : (x : Component) (o : Option Role) → role_of x p ≡ o → is_some o ≡ true → IsPin x p
      role x None f g = absurd (true≢false (sym g))
      role x (Some r) f g = (r, f)

      go : (o : Option Component) → get N.comps c ≡ o → has_pin o p ≡ true → (x : Component) × (get N.comps c ≡ Some x) × IsPin x p
      go None f g = absurd (true≢false (sym g))
      go (Some x) f g = (x, f, role x (role_of x p) refl g)

  pub pin_unknown : ((x : Component) → get N.comps c ≡ Some x → IsPin x p → ⊥) → has_pin (get N.comps c) p ≡ false
  pin_unknown none = go (has_pin (get N.comps c) p) refl
    where
      go : (b : Bool) → has_pin (get N.comps c) p ≡ b → b ≡ false
      go true e = let x = known_is_pin e in absurd (none x.0 x.1 x.2)
      go false e = refl

known_append : (N : Netlist) (xs ys : List NewJoint) → known_pins N (xs ++ ys) ≡ known_pins N xs ++ known_pins N ys
known_append N xs ys = filter-append (λ (j : NewJoint). has_pin (get N.comps j.comp) j.pin) xs ys

-- ---- supply pins

both_or_none : (a b : Bool) → (a ≡ true → b ≡ true) → (b ≡ true → a ≡ true) → a ≡ b
both_or_none true b f g = sym (f refl)
both_or_none false true f g = g refl
both_or_none false false f g = refl

place_of : {A : Type 0} (xs : List A) (a : A) → Has xs a → (k : ℕ) × (slice_get xs k ≡ Some a)
place_of [] a h = absurd h
place_of (x ∷ xs) a (inl e) = (0, ap Some e)
place_of (x ∷ xs) a (inr h) = let r = place_of xs a h in (suc r.0, r.1)

has_got : {A : Type 0} (xs : List A) (k : ℕ) (a : A) → slice_get xs k ≡ Some a → Has xs a
has_got [] k a e = absurd (omega (arith, slice_get_within [] k a e))
has_got (x ∷ xs) zero a e = inl (same_Some e)
has_got (x ∷ xs) (suc k) a e = inr (has_got xs k a e)

module _ (powers : Powers) (cs : List NamedComp) (comp pin : Name) where
  -- where names stand once, a component's supply pins are those of its macro
  pub supply_at : AreDistinctNames (map (λ c. c.name) cs) → (i : ℕ) (c : NamedComp) → slice_get cs i ≡ Some c → c.name ≡ comp → has_supply_pin powers cs comp pin ≡ powers c.model pin
  supply_at apart i c e named = both_or_none (has_supply_pin powers cs comp pin) (powers c.model pin) to from
    where
      at : (k : ℕ) (a : NamedComp) → slice_get cs k ≡ Some a → a.name ≡ comp → slice_get (map (λ (c : NamedComp). c.name) cs) k ≡ Some comp
      at k a f g = slice_get-map (λ (c : NamedComp). c.name) cs k ∙ ap (option_map (λ (c : NamedComp). c.name)) f ∙ ap Some g

      to : has_supply_pin powers cs comp pin ≡ true → powers c.model pin ≡ true
      to f =
          let a = any_has (λ (c : NamedComp). bytes_eq c.name comp && powers c.model pin) cs f in
          let b = and_parts (bytes_eq a.0.name comp) (powers a.0.model pin) a.2 in
          let k = place_of cs a.0 a.1 in
          let here : k.0 ≡ i = apart k.0 i comp (at k.0 a.0 k.1 (same_name a.0.name comp b.0)) (at i c e named) in
          let same : a.0 ≡ c = same_Some (sym k.1 ∙ ap (slice_get cs) here ∙ e) in
          sym (ap (λ (z : NamedComp). powers z.model pin) same) ∙ b.1

      from : powers c.model pin ≡ true → has_supply_pin powers cs comp pin ≡ true
      from f = has_any (λ (c : NamedComp). bytes_eq c.name comp && powers c.model pin) cs c (has_got cs i c e) (and_from (bytes_eq c.name comp) (powers c.model pin) (is_name c.name comp named) f)

  pub supply_of_none : (Contains (map (λ c. c.name) cs) comp → ⊥) → has_supply_pin powers cs comp pin ≡ false
  supply_of_none none = go (has_supply_pin powers cs comp pin) refl
    where
      go : (b : Bool) → has_supply_pin powers cs comp pin ≡ b → b ≡ false
      go true f =
          let a = any_has (λ (c : NamedComp). bytes_eq c.name comp && powers c.model pin) cs f in
          let b = and_parts (bytes_eq a.0.name comp) (powers a.0.model pin) a.2 in
          absurd (none (contains_from_has (map (λ (c : NamedComp). c.name) cs) comp (subst (Has (map (λ (c : NamedComp). c.name) cs)) (same_name a.0.name comp b.0) (has_map (λ (c : NamedComp). c.name) cs a.0 a.1))))
      go false f = refl

-- the netlist has no component of the name, so no row has it
pub no_such_comp : (L : Listing) → IsListing L → (comp : Name) → get (netlist L).comps comp ≡ None → Contains (comp_names L) comp → ⊥
no_such_comp L is comp none h =
    let k = place_of (comp_names L) comp (has_from_contains (comp_names L) comp h) in
    let r = row_of_name (λ (r : CompRow). r.name) L.comps k.0 comp k.1 in
    not_None (sym (comp_is L is k.0 r.0 r.1) ∙ ap (get (netlist L).comps) r.2 ∙ none)

-- the component of a number is the one that stands at that place of the design
pub supply_numbered : (powers : Powers) (L : Listing) → IsListing L → (text : List ℕ) (comps : List Comp) (comp pin : Name) (i : ℕ) → comp_names L ≡ map (λ c. c.name) (named_comps text comps) →
    slice_get (comp_names L) i ≡ Some comp → has_supply_pin powers (named_comps text comps) comp pin ≡ powers (named_comp text (get_or comps i no_comp)).model pin
supply_numbered powers L is text comps comp pin i numbers e =
    let cs : List NamedComp = named_comps text comps in
    let c : NamedComp = named_comp text (get_or comps i no_comp) in
    let at : slice_get (map (λ (c : NamedComp). c.name) cs) i ≡ Some comp = subst (λ (ns : List Name). slice_get ns i ≡ Some comp) numbers e in
    let within : i < length (map (λ (c : NamedComp). c.name) cs) = slice_get_within (map (λ (c : NamedComp). c.name) cs) i comp at in
    let names : length (map (λ (c : NamedComp). c.name) cs) ≡ length cs = length-map cs (λ (c : NamedComp). c.name) in
    let all : length cs ≡ length comps = length-map comps (named_comp text) in
    let got : slice_get cs i ≡ Some c = slice_get-map (named_comp text) comps i ∙ ap (option_map (named_comp text)) (slice_get-get_or comps i no_comp (omega (arith, within, names, all))) in
    supply_at powers cs comp pin (subst AreDistinctNames numbers is.comps) i c got (same_Some (sym (slice_get-map (λ (c : NamedComp). c.name) cs i ∙ ap (option_map (λ (c : NamedComp). c.name)) got) ∙ at))

-- ---- one joint

-- a component that was looked up
pub looked_up : (L : Listing) (name : Name) (o p : Option FoundComp) → o ≡ p → FindsComp L name o → FindsComp L name p
looked_up L name o p e h = subst (FindsComp L name) e h

pub no_comp_pin : (L : Listing) (comp pin : Name) → get (netlist L).comps comp ≡ None → FindsPinOf L comp pin None
no_comp_pin L comp pin none x e p = absurd (not_None (sym e ∙ none))

pub found_joint : (powered : Name → Name → Bool) (L : Listing) (comp pin : Name) (o : Option (CompId × ℕ)) → FindsPinOf L comp pin o → (is_some o ≡ true) ⊎ (powered comp pin ≡ true) → FindsJoint powered L comp pin o
found_joint powered L comp pin None f (inl e) = absurd (true≢false (sym e))
found_joint powered L comp pin None f (inr e) = (f, e)
found_joint powered L comp pin (Some k) f e = f

pub unknown_joint : (powered : Name → Name → Bool) (L : Listing) (comp pin : Name) (o : Option (CompId × ℕ)) → FindsPinOf L comp pin o → is_some o ≡ false → powered comp pin ≡ false → IsUnknownJoint powered (netlist L) comp pin
unknown_joint powered L comp pin None f e g = record { no_pin = f; no_supply = g }
unknown_joint powered L comp pin (Some k) f e g = absurd (true≢false e)

one_pin : (n : Name) (j : NamedJoint) → is_no_component j.comp ≡ false → pins_among n (j ∷ []) ≡ joint_on_net n j ∷ []
one_pin n j e = ap (λ b. map (joint_on_net n) (cond (not b) (j ∷ []) [])) e

no_pin : (n : Name) (j : NamedJoint) → is_no_component j.comp ≡ true → pins_among n (j ∷ []) ≡ []
no_pin n j e = ap (λ b. map (joint_on_net n) (cond (not b) (j ∷ []) [])) e

alone : (j k : NewJoint) → Contains (j ∷ []) k → j ≡ k
alone j k h = ⊎_elim (λ e. e) (λ z. absurd z) (has_from_contains (j ∷ []) k h)

module _ (powered : Name → Name → Bool) where
  pub joint_unknown : (N : Netlist) (j : NewJoint) → IsUnknownJoint powered N j.comp j.pin → PinFault powered N (j ∷ []) UnknownPin
  joint_unknown N j none = (j, contains_from_has (j ∷ []) j (inl refl), none)

  pub no_pins_found : (L : Listing) (old : List JoinedPin) → FindsPins powered L [] old old
  no_pins_found L old = record { joints = sym (append-nil (joints_of L old)); known = λ k. k; each = λ j h. absurd (has_from_contains {A = NewJoint} [] j h) }

  pub joint_passed : (L : Listing) (j : NewJoint) (old : List JoinedPin) → FindsJoint powered L j.comp j.pin None → FindsPins powered L (j ∷ []) old old
  joint_passed L j old s = record {
    joints = sym (append-nil (joints_of L old)) ∙ ap (λ js. joints_of L old ++ js) (sym passed);
    known = λ k. k;
    each = λ k h. inr (subst (λ (q : NewJoint). powered q.comp q.pin ≡ true) (alone j k h) s.1);
  }
    where
      passed : known_pins (netlist L) (j ∷ []) ≡ []
      passed = ap (λ b. cond b (j ∷ []) []) (pin_unknown (netlist L) j.comp j.pin s.0)

  pub joint_found : (L : Listing) → IsListing L → (j : NewJoint) (old : List JoinedPin) (p : JoinedPin) → joint_of L p ≡ j → IsKnownJoint L p → FindsPins powered L (j ∷ []) old (old ++ p ∷ [])
  joint_found L is j old p s known = record {
    joints = map-append (joint_of L) old (p ∷ []) ∙ ap (λ k. joints_of L old ++ k ∷ []) s ∙ ap (λ ks. joints_of L old ++ ks) (sym kept);
    known = λ each q h. ⊎_elim (λ i. each q (contains_from_has old q i)) (λ i. ⊎_elim (λ f. subst (IsKnownJoint L) f known) (λ z. absurd z) i) (has_of_append old (p ∷ []) q (has_from_contains (old ++ p ∷ []) q h));
    each = λ k h. inl (subst (λ (q : NewJoint). has_pin (get (netlist L).comps q.comp) q.pin ≡ true) (alone j k h) has);
  }
    where
      has : has_pin (get (netlist L).comps j.comp) j.pin ≡ true
      has =
          let x = known_joint L is p known in
          subst (λ (q : NewJoint). has_pin (get (netlist L).comps q.comp) q.pin ≡ true) s (pin_is_known (netlist L) (joint_of L p).comp (joint_of L p).pin x.0 x.1 x.2)

      kept : known_pins (netlist L) (j ∷ []) ≡ j ∷ []
      kept = ap (λ b. cond b (j ∷ []) []) has

  -- ---- many joints

  pub pins_more : (L : Listing) (xs ys : List NewJoint) (a b c : List JoinedPin) → FindsPins powered L xs a b → FindsPins powered L ys b c → FindsPins powered L (xs ++ ys) a c
  pins_more L xs ys a b c f g = record {
    joints =
        g.joints ∙ ap (λ js. js ++ known_pins (netlist L) ys) f.joints ∙ append_assoc (joints_of L a) (known_pins (netlist L) xs) (known_pins (netlist L) ys)
        ∙ ap (λ js. joints_of L a ++ js) (sym (known_append (netlist L) xs ys));
    known = λ each. g.known (f.known each);
    each = λ j h. ⊎_elim (λ i. f.each j (contains_from_has xs j i)) (λ i. g.each j (contains_from_has ys j i)) (has_of_append xs ys j (has_from_contains (xs ++ ys) j h));
  }

  -- a fault among some joints is one among more
  pub fault_among : (N : Netlist) (xs ys : List NewJoint) (fault : DesignFault) → ((j : NewJoint) → Has xs j → Has ys j) → PinFault powered N xs fault → PinFault powered N ys fault
  fault_among N xs ys UnknownMacro to f = f
  fault_among N xs ys UnknownPin to f = (f.0, contains_from_has ys f.0 (to f.0 (has_from_contains xs f.0 f.1)), f.2)
  fault_among N xs ys PinNetDiffers to f = f
  fault_among N xs ys SupplyDiffers to f = f
  fault_among N xs ys Memory to f = f

pub pins_among-append : (n : Name) (xs ys : List NamedJoint) → pins_among n (xs ++ ys) ≡ pins_among n xs ++ pins_among n ys
pins_among-append n xs ys =
    ap (map (joint_on_net n)) (filter-append (λ (j : NamedJoint). not (is_no_component j.comp)) xs ys)
    ∙ map-append (joint_on_net n) (filter (λ j. not (is_no_component j.comp)) xs) (filter (λ j. not (is_no_component j.comp)) ys)

-- ---- statements

pub map_twice : {A B C : Type 0} (f : B → C) (g : A → B) (xs : List A) → map f (map g xs) ≡ map (λ x. f (g x)) xs
map_twice f g [] = refl
map_twice f g (x ∷ xs) = ap (λ ys. f (g x) ∷ ys) (map_twice f g xs)

-- a net's name by its number
pub number_named : (L : Listing) (i : ℕ) (n : Name) → slice_get (net_names L) i ≡ Some n → net_name L.nets i ≡ n
number_named L i n e = ap (λ o. unwrap_or o []) (sym (slice_get-map (λ (r : NetRow). r.name) L.nets i) ∙ e)

pub number_within : (L : Listing) (i : ℕ) (n : Name) → slice_get (net_names L) i ≡ Some n → i < length L.nets
number_within L i n e = omega (arith, slice_get_within (net_names L) i n e, length-map L.nets (λ (r : NetRow). r.name))

pub statement_pins : (text : List ℕ) (s : NetStatement) (n : Name) (js : List Joint) → n ≡ (named_net text s).name → js ≡ s.joints → pins_among n (map (named_joint text) js) ≡ stated_pins (named_net text s)
statement_pins text s n js e f =
    ap (λ m. pins_among m (map (named_joint text) js)) e
    ∙ ap (λ ks. pins_among (named_net text s).name (map (named_joint text) ks)) f
    ∙ ap (pins_among (named_net text s).name) (sym (map_twice joint_names (joint_in text) s.joints))

pub has_at : {A : Type 0} (xs : List A) (i : ℕ) (x : A) → i < length xs → x ≡ get_or xs i x → Has xs x
has_at [] i x h e = absurd (omega (arith, h))
has_at (y ∷ ys) zero x h e = inl (sym e)
has_at (y ∷ ys) (suc i) x h e = inr (has_at ys i x (omega (arith, h)) e)

pub has_at_place : {A : Type 0} (xs : List A) (i : ℕ) (d : A) → i < length xs → Has xs (get_or xs i d)
has_at_place [] i d h = absurd (omega (arith, h))
has_at_place (y ∷ ys) zero d h = inl refl
has_at_place (y ∷ ys) (suc i) d h = inr (has_at_place ys i d (omega (arith, h)))

pub has_of_take : {A : Type 0} (xs : List A) (i : ℕ) (x : A) → Has (take i xs) x → Has xs x
has_of_take [] zero x h = absurd h
has_of_take [] (suc i) x h = absurd h
has_of_take (y ∷ ys) zero x h = absurd h
has_of_take (y ∷ ys) (suc i) x (inl e) = inl e
has_of_take (y ∷ ys) (suc i) x (inr h) = inr (has_of_take ys i x h)

pub all_pins_more : (text : List ℕ) (ss : List NetStatement) (i : ℕ) (s : NetStatement) → i < length ss → s ≡ get_or ss i s →
    all_pins_on (named_nets text (take (i + 1) ss)) ≡ all_pins_on (named_nets text (take i ss)) ++ stated_pins (named_net text s)
all_pins_more text ss i s h e =
    ap all_pins_on (mapped_more (named_net text) ss i s h e)
    ∙ flat_map-append stated_pins (named_nets text (take i ss)) (named_net text s ∷ [])
    ∙ ap (λ js. all_pins_on (named_nets text (take i ss)) ++ js) (append-nil (stated_pins (named_net text s)))
