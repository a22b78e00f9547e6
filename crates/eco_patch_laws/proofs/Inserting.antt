-- What an order's insertion does to components, nets and drivers
use Rattle.std.proofs.Common.{◌≡◌, ◌≢◌, Bool, true, List, [], ◌∷◌, map, Option, Some, None, refl, sym, ap, ◌∙◌, subst, inl, inr, ⊎_elim, ◌⊎◌}
use Rattle.std.specs.FinMap.{FinMap, get, insert}
use Rattle.eco_common.specs.declared.geometry.Point.{Point}
use Rattle.eco_net.specs.Netlist.{Name, name_cmp, Netlist, Component, role_of, Pin, TopPin, CompPin, input_names, input_nets}
use Rattle.eco_net.specs.Drivers.{is_driving, driven, driven_at, IsDriver}
use Rattle.eco_net.proofs.Basics.{Has, same_Some, not_None, same_name, get_same, get_other, has_of_map, contains_from_has}
use Rattle.eco_patch_laws.specs.Orders.{PatchGate, Move, Order}
use Rattle.eco_common.specs.Joints.{NewJoint}
use Rattle.eco_net.specs.Joints.{put_joints}
use Rattle.eco_patch_laws.specs.Insertion.{patch_name, patch_component, with_gates, move_joint, inserted}
use Rattle.eco_net.specs.Bases.{IsConstant}
use Rattle.eco_patch_laws.specs.Rules.{IsRedriven, left_by, reached_by}
use Rattle.eco_patch_laws.proofs.Names.{one_gate_name}
use Rattle.eco_patch_laws.proofs.Joining.{nets_other, nets_new, rejoin, joined_new, joined_old, joined_some, joined_none, joined_back, joined_not}
use Rattle.eco_patch_laws.proofs.Gates.{joined_driven, driven_joined, patch_drives}
use Rattle.eco_patch_laws.proofs.Sim.{found_driver}
use Rattle.eco_patch_laws.proofs.Keeping.{Keeps, gate_of_name, redriven_gate}

-- ---- moves

abbrev pub moved : FinMap name_cmp Component → List Move → FinMap name_cmp Component
moved m moves = put_joints m (map move_joint moves)

pub record MovedFrom (ms : List Move) (c : Name) (x y : Component) : Type 0 where
  pub kind : y.kind ≡ x.kind
  pub new : (p n : Name) → get y.joined p ≡ Some n → (get x.joined p ≡ Some n) ⊎ ((m : Move) × Has ms m × (m.comp ≡ c) × (m.pin ≡ p) × (m.to ≡ n))
  pub old : (p n : Name) → get x.joined p ≡ Some n → (get y.joined p ≡ Some n) ⊎ ((m : Move) × Has ms m × (m.comp ≡ c) × (m.pin ≡ p))

moved_from : (ms : List Move) (c : Name) (x : Component) → MovedFrom ms c x (rejoin (map move_joint ms) c x)
moved_from ms c x = record {
  kind = refl;
  new = λ p n e. ⊎_elim (λ f. inl f) (λ j. let m = has_of_map move_joint ms j.0 j.1 in inr (m.0, m.1, ap (λ z. z.comp) m.2 ∙ j.2, ap (λ z. z.pin) m.2 ∙ j.3, ap (λ z. z.net) m.2 ∙ j.4)) (joined_new (map move_joint ms) c x.joined p n e);
  old = λ p n e. ⊎_elim (λ f. inl (f ∙ e)) (λ j. let m = has_of_map move_joint ms j.0 j.1 in inr (m.0, m.1, ap (λ z. z.comp) m.2 ∙ j.2, ap (λ z. z.pin) m.2 ∙ j.3)) (joined_old (map move_joint ms) c x.joined p);
}

pub moved_some : (A : FinMap name_cmp Component) (ms : List Move) (c : Name) (x : Component) → get A c ≡ Some x → (y : Component) × (get (moved A ms) c ≡ Some y) × MovedFrom ms c x y
moved_some A ms c x e = (rejoin (map move_joint ms) c x, joined_some A (map move_joint ms) c x e, moved_from ms c x)

pub moved_back : (A : FinMap name_cmp Component) (ms : List Move) (c : Name) (y : Component) → get (moved A ms) c ≡ Some y → (x : Component) × (get A c ≡ Some x) × MovedFrom ms c x y
moved_back A ms c y e = let r = joined_back A (map move_joint ms) c y e in (r.0, r.1, subst (MovedFrom ms c r.0) r.2 (moved_from ms c r.0))

pub unmoved_joint : (ms : List Move) (c : Name) → ((m : Move) → Has ms m → m.comp ≢ c) → (j : NewJoint) → Has (map move_joint ms) j → j.comp ≢ c
unmoved_joint ms c h j i = let m = has_of_map move_joint ms j i in λ s. h m.0 m.1 (ap (λ z. z.comp) m.2 ∙ s)

pub moved_not : (A : FinMap name_cmp Component) (ms : List Move) (c : Name) → ((m : Move) → Has ms m → m.comp ≢ c) → get (moved A ms) c ≡ get A c
moved_not A ms c h = joined_not A (map move_joint ms) c (unmoved_joint ms c h)

-- ---- patch gates

module _ (label : Name) (place : Name → Option Point) where
  pub gates_other : (A : FinMap name_cmp Component) (gs : List PatchGate) (c : Name) → ((g : PatchGate) → Has gs g → c ≢ patch_name label g.name) → get (with_gates label place A gs) c ≡ get A c
  gates_other A [] c h = refl
  gates_other A (g ∷ gs) c h = get_other _ (patch_name label g.name) (patch_component g (place g.name)) c (h g (inl refl)) ∙ gates_other A gs c (λ d i. h d (inr i))

  pub gates_cases : (A : FinMap name_cmp Component) (gs : List PatchGate) (c : Name) (x : Component) → get (with_gates label place A gs) c ≡ Some x → ((g : PatchGate) × Has gs g × (c ≡ patch_name label g.name) × (x ≡ patch_component g (place g.name))) ⊎ (get A c ≡ Some x)
  gates_cases A [] c x e = inr e
  gates_cases A (g ∷ gs) c x e =
      let y : Component = patch_component g (place g.name) in
      let w = with_gates label place A gs in
      ⊎_elim
      (λ s. inl (g, inl refl, s, same_Some (sym e ∙ ap (get (insert w (patch_name label g.name) y)) s ∙ get_same w (patch_name label g.name) y)))
      (λ n. ⊎_elim (λ h. inl (h.0, inr h.1, h.2, h.3)) (λ h. inr h) (gates_cases A gs c x (sym (get_other w (patch_name label g.name) y c n) ∙ e)))
      (same_name c (patch_name label g.name))

  -- the gate of a name that one gate alone has
  pub gates_in : (A : FinMap name_cmp Component) (gs : List PatchGate) (g : PatchGate) → ((h : PatchGate) → Has gs h → h.name ≡ g.name → h ≡ g) → Has gs g → get (with_gates label place A gs) (patch_name label g.name) ≡ Some (patch_component g (place g.name))
  gates_in A [] g a h = absurd h
  gates_in A (d ∷ gs) g a h =
      let w = with_gates label place A gs in
      ⊎_elim
      (λ s.
      let e : d ≡ g = a d (inl refl) (sym (one_gate_name label g.name d.name s)) in
      subst (λ z. get (insert w (patch_name label d.name) (patch_component d (place d.name))) (patch_name label z.name) ≡ Some (patch_component z (place z.name))) e
      (get_same w (patch_name label d.name) (patch_component d (place d.name))))
      (λ n.
      get_other w (patch_name label d.name) (patch_component d (place d.name)) (patch_name label g.name) n
      ∙ gates_in A gs g (λ h i. a h (inr i)) (⊎_elim (λ e. absurd (n (ap (λ z. patch_name label z.name) (sym e)))) (λ i. i) h))
      (same_name (patch_name label g.name) (patch_name label d.name))

no_map : {A B : Type 0} (f : A → B) (xs : List A) → map f xs ≡ [] → xs ≡ []
no_map f [] e = refl
no_map f (x ∷ xs) e = cc

-- ---- an order inserted under a label that is new

module _ (label : Name) (place : Name → Option Point) (bare N P : Netlist) (order : Order) (keeps : Keeps bare N P order) (fresh : (g : Name) → get N.comps (patch_name label g) ≡ None) where
  pub in_old : (c : Name) (x : Component) → get N.comps c ≡ Some x → (y : Component) × (get (inserted label place N order).comps c ≡ Some y) × MovedFrom order.moves c x y
  in_old c x e =
      let r = moved_some N.comps order.moves c x e in
      (r.0, gates_other label place (moved N.comps order.moves) order.gates c (λ g h s. not_None (sym e ∙ ap (get N.comps) s ∙ fresh g.name)) ∙ r.1, r.2)

  -- what is not moved stays
  pub in_still : (c : Name) (x : Component) → get N.comps c ≡ Some x → ((m : Move) → Has order.moves m → m.comp ≢ c) → get (inserted label place N order).comps c ≡ Some x
  in_still c x e h =
      gates_other label place (moved N.comps order.moves) order.gates c (λ g i s. not_None (sym e ∙ ap (get N.comps) s ∙ fresh g.name))
      ∙ moved_not N.comps order.moves c h ∙ e

  pub in_moved : (c : Name) (x : Component) → get (moved N.comps order.moves) c ≡ Some x → get (inserted label place N order).comps c ≡ Some x
  in_moved c x e = gates_other label place (moved N.comps order.moves) order.gates c (λ g i s. not_None (sym e ∙ joined_none N.comps (map move_joint order.moves) c (ap (get N.comps) s ∙ fresh g.name))) ∙ e

  pub in_none : (c : Name) → get N.comps c ≡ None → ((g : PatchGate) → Has order.gates g → c ≢ patch_name label g.name) → get (inserted label place N order).comps c ≡ None
  in_none c e h = gates_other label place (moved N.comps order.moves) order.gates c h ∙ joined_none N.comps (map move_joint order.moves) c e

  pub in_cases : (c : Name) (y : Component) → get (inserted label place N order).comps c ≡ Some y → ((g : PatchGate) × Has order.gates g × (c ≡ patch_name label g.name) × (y ≡ patch_component g (place g.name))) ⊎ ((x : Component) × (get N.comps c ≡ Some x) × MovedFrom order.moves c x y)
  in_cases c y e = ⊎_elim (λ h. inl h) (λ h. inr (moved_back N.comps order.moves c y h)) (gates_cases label place (moved N.comps order.moves) order.gates c y e)

  pub in_gate : (g : PatchGate) → Has order.gates g → get (inserted label place N order).comps (patch_name label g.name) ≡ Some (patch_component g (place g.name))
  in_gate g h = gates_in label place (moved N.comps order.moves) order.gates g (λ d i e. gate_of_name order d g keeps.apart i h e) h

  -- ---- drivers

  -- a driving pin of n drove it before, or n is among those that change
  pub drove : (p : Pin) (n : Name) → driven (inserted label place N order) p ≡ Some n → (driven N p ≡ Some n) ⊎ IsRedriven N order n
  drove (TopPin t) n d = inl d
  drove (CompPin c k) n d =
      let f = found_driver (inserted label place N order) c k n d in
      ⊎_elim
      (λ h.
      let o = (patch_drives h.0 (place h.0.name)).only k n (ap (λ x. driven_at (Some x) k) (sym h.3) ∙ f.2) in
      inr (subst (IsRedriven N order) (sym o.1) (redriven_gate N order h.0 h.1)))
      (λ h.
      let m = h.2 in
      let j = joined_driven f.0 k n f.2 in
      let r : is_driving (role_of h.0 k) ≡ true = ap (λ z. is_driving (role_of (record h.0 { kind = z }) k)) (sym m.kind) ∙ j.0 in
      ⊎_elim
      (λ e. inl (ap (λ o. driven_at o k) h.1 ∙ driven_joined h.0 k n r e))
      (λ v. inr (reached_by v.0 (contains_from_has order.moves v.0 v.1) (h.0, ap (get N.comps) v.2 ∙ h.1, ap (λ i. is_driving (role_of h.0 i)) v.3 ∙ r) v.4))
      (m.new k n j.1))
      (in_cases c f.0 f.1)

  -- a driving pin of n drives it still, or n is among those that change
  pub still_drives : (p : Pin) (n : Name) → driven N p ≡ Some n → (driven (inserted label place N order) p ≡ Some n) ⊎ IsRedriven N order n
  still_drives (TopPin t) n d = inl d
  still_drives (CompPin c k) n d =
      let f = found_driver N c k n d in
      let h = in_old c f.0 f.1 in
      let j = joined_driven f.0 k n f.2 in
      ⊎_elim
      (λ e. inl (ap (λ o. driven_at o k) h.1 ∙ driven_joined h.0 k n (ap (λ z. is_driving (role_of (record h.0 { kind = z }) k)) h.2.kind ∙ j.0) e))
      (λ v.
      let i : get N.comps v.0.comp ≡ Some f.0 = ap (get N.comps) v.2 ∙ f.1 in
      inr (left_by v.0 (contains_from_has order.moves v.0 v.1) (f.0, i, ap (λ z. is_driving (role_of f.0 z)) v.3 ∙ j.0)
      (sym (keeps.from_is v.0 f.0 v.1 i) ∙ ap (get f.0.joined) v.3 ∙ j.1)))
      (h.2.old k n j.1)

  pub driver_stays : (n : Name) (p : Pin) → (IsRedriven N order n → ⊥) → IsDriver N n p → IsDriver (inserted label place N order) n p
  driver_stays n p apart d = record {
    drives = ⊎_elim (λ e. e) (λ c. absurd (apart c)) (still_drives p n d.drives);
    only = λ q e. ⊎_elim (λ f. d.only q f) (λ c. absurd (apart c)) (drove q n e);
  }

  pub net_stays : (n : Name) (s : Option Bool) → get N.nets n ≡ Some s → get (inserted label place N order).nets n ≡ Some s
  net_stays n s e = nets_other N.nets order.nets n (λ h. not_None (sym e ∙ keeps.new_nets n h)) ∙ e

  no_inputs_stay : (c : Name) (x y : Component) → MovedFrom order.moves c x y → input_nets x ≡ [] → input_nets y ≡ []
  no_inputs_stay c x y m e = ap (λ ns. map (get y.joined) ns) (ap input_names m.kind ∙ no_map (get x.joined) (input_names x.kind) e)

  pub constant_stays : (n : Name) (b : Bool) → (IsRedriven N order n → ⊥) → IsConstant N n b → IsConstant (inserted label place N order) n b
  constant_stays n b apart (inl e) = inl (net_stays n (Some b) e)
  constant_stays n b apart (inr c) =
      let h = in_old c.comp c.gate c.is in
      inr (record {
        unsupplied = net_stays n None c.unsupplied;
        comp = c.comp;
        pin = c.pin;
        gate = h.0;
        is = h.1;
        driver = driver_stays n _ apart c.driver;
        at = ap (λ z. role_of (record h.0 { kind = z }) c.pin) h.2.kind ∙ c.at;
        reads = no_inputs_stay c.comp c.gate h.0 h.2 c.reads;
      })

  -- a gate's output is a net and no supply
  pub output_net : (g : PatchGate) → Has order.gates g → get (inserted label place N order).nets g.output ≡ Some None
  output_net g h = ⊎_elim (λ i. go i.0 i.1) (λ i. nets_new N.nets order.nets g.output i) (keeps.outputs_known g h)
    where
      go : (s : Option Bool) → get N.nets g.output ≡ Some s → get (inserted label place N order).nets g.output ≡ Some None
      go None e = net_stays g.output None e
      go (Some b) e = absurd (keeps.no_supply g.output b (redriven_gate N order g h) e)
