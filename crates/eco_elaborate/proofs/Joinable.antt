-- Which joints a design, and its netlist, can take.
use Rattle.std.proofs.Common.{◌≡◌, Bool, true, false, List, map, Option, Some, None, is_some, refl, sym, ap, ◌∙◌, subst, inl, inr, ⊎_elim}
use Rattle.std.specs.List.{Contains, IsDistinct}
use Rattle.std.specs.Option.{option_map}
use Rattle.std.specs.Ordering.{eq_by_cmp}
use Rattle.std.specs.Str.{bytes_eq}
use Rattle.std.specs.FinMap.{get}
use Rattle.std.specs.FinMap as fin
use Rattle.eco_def.specs.Named.{NamedComp, NamedDesign}
use Rattle.eco_common.specs.Joints.{NewJoint}
use Rattle.eco_net.specs.Netlist.{Name, name_cmp, Kind, Component, Netlist, CompPin, IsNet, IsPin, IsWellFormed, HasRows, Role, pins_of}
use Rattle.eco_net.specs.Drivers.{net_of, joined_at}
use Rattle.eco_net.proofs.Basics.{Has, contains_from_has, has_from_contains, has_found, same_Some, not_None}
use Rattle.eco_elaborate.specs.Netlists.{Kinds, kind_pins, netlist_of}
use Rattle.eco_issued_laws.specs.Changes.{has_net}
use Rattle.eco_elaborate.specs.Described.{NamesOnce, CanJoinIn}
use Rattle.eco_net.specs.Joints.{with_joints, frame, IsRewired}
use Rattle.eco_elaborate.specs.Joinable.{CanJoin}
use Rattle.eco_elaborate.specs.Laws.{StillWellFormed, CanJoinIs}
use Rattle.eco_elaborate.proofs.Names.{is_name}
use Rattle.eco_elaborate.proofs.Members.{has_any}
use Rattle.eco_elaborate.proofs.Lookups.{named_pin}
use Rattle.eco_elaborate.proofs.Joining.{for_some}
use Rattle.eco_elaborate.proofs.Nets.{net_known, known_net, net_unknown}
use Rattle.eco_elaborate.proofs.Found.{comp_said, said_comp}
use Rattle.eco_elaborate.proofs.Rewiring.{its_wires, among}

-- ---- by the design, and by its netlist

-- a name among a kind's pins has a role
pub has_role : (k : Kind) (p : Name) → Has (kind_pins k) p → (r : Role) × (fin.find name_cmp p (pins_of k) ≡ Some r)
has_role k p h = go (fin.find name_cmp p (pins_of k)) refl (sym (named_pin (pins_of k) p) ∙ has_any (λ q. bytes_eq q p) (kind_pins k) p h (is_name p p refl))
  where
    go : (o : Option Role) → fin.find name_cmp p (pins_of k) ≡ o → is_some (fin.find name_cmp p (pins_of k)) ≡ true → (r : Role) × (fin.find name_cmp p (pins_of k) ≡ Some r)
    go None e f = absurd (neither (sym (ap is_some e) ∙ f))
      where
        neither : false ≡ true → ⊥
        neither z = cc
    go (Some r) e f = (r, e)

module _ (kinds : Kinds) (ties : List Name) (d : NamedDesign) (joints : List NewJoint) (new : List Name) (once : NamesOnce d) where
  abbrev N : Netlist
  N = netlist_of kinds ties d

  -- the component that stands for a, in the netlist
  its_kind : (a : NamedComp) (k : Kind) → Has d.comps a → kinds.kind a.model ≡ Some k → (x : Component) × (get N.comps a.name ≡ Some x) × (x.kind ≡ k)
  its_kind a k h e =
      let x = said_comp kinds ties d a k h e in
      let y = comp_said kinds ties d a.name x.0 x.1 in
      let same : y.0.0 ≡ a = once.comps y.0.0 a (contains_from_has d.comps y.0.0 y.1) (contains_from_has d.comps a h) y.2 in
      (x.0, x.1, ap (λ z. z.kind) (sym y.4) ∙ same_Some (sym y.3 ∙ ap (λ z. kinds.kind z.model) same ∙ e))

  to_netlist : CanJoinIn kinds d joints new → CanJoin N joints new
  to_netlist can = record {
    pins = λ j h.
        let a = can.pins j h in
        let x = its_kind a.0 a.1 (has_from_contains d.comps a.0 a.2) a.4 in
        let r = has_role a.1 j.pin (has_from_contains (kind_pins a.1) j.pin a.5) in
        (x.0, ap (get N.comps) (sym a.3) ∙ x.1, (r.0, ap (λ k. fin.find name_cmp j.pin (pins_of k)) x.2 ∙ r.1));
    named = can.named;
    one_net = can.one_net;
    known = λ j h. ⊎_elim (λ e. inl (known_net kinds ties d j.net e)) (λ i. inr i) (can.known j h);
    unknown = λ n h. none n (get N.nets n) refl (can.unknown n h);
  }
    where
      none : (n : Name) (o : Option (Option Bool)) → get N.nets n ≡ o → has_net d n ≡ false → get N.nets n ≡ None
      none n None e f = e
      none n (Some s) e f = absurd (both (sym (net_known kinds ties d n (s, e)) ∙ f))
        where
          both : true ≡ false → ⊥
          both z = cc

  from_netlist : CanJoin N joints new → CanJoinIn kinds d joints new
  from_netlist can = record {
    pins = λ j h.
        let x = can.pins j h in
        let y = comp_said kinds ties d j.comp x.0 x.1 in
        let role : fin.find name_cmp j.pin (pins_of y.0.1) ≡ Some x.2.0 = ap (λ z. fin.find name_cmp j.pin (pins_of z.kind)) y.4 ∙ x.2.1 in
        (y.0.0, y.0.1, contains_from_has d.comps y.0.0 y.1, y.2, y.3, contains_from_has (kind_pins y.0.1) j.pin (has_found (pins_of y.0.1) j.pin x.2.0 role));
    named = can.named;
    one_net = can.one_net;
    known = λ j h. ⊎_elim (λ e. inl (net_known kinds ties d j.net e)) (λ i. inr i) (can.known j h);
    unknown = λ n h. net_unknown kinds ties d n (can.unknown n h);
  }

pub can_join_is : CanJoinIs
can_join_is kinds ties d joints new once = (to_netlist kinds ties d joints new once, from_netlist kinds ties d joints new once)

-- ---- whole netlists

module _ (N : Netlist) (joints : List NewJoint) (new : List Name) (is : IsWellFormed N) (can : CanJoin N joints new) where
  abbrev M : Netlist
  M = with_joints N joints new

  wires : IsRewired N joints new M
  wires = its_wires N joints new can.one_net (λ j h. let x = can.pins j h in (x.0, x.1))

  -- a component was one of the same kind
  was : (c : Name) (x : Component) → get M.comps c ≡ Some x → (y : Component) × (get N.comps c ≡ Some y) × (y.kind ≡ x.kind)
  was c x e = go (get N.comps c) refl
    where
      go : (o : Option Component) → get N.comps c ≡ o → (y : Component) × (get N.comps c ≡ Some y) × (y.kind ≡ x.kind)
      go None f = absurd (not_None (sym (ap (option_map frame) e) ∙ wires.frames c ∙ ap (option_map frame) f))
      go (Some y) f = (y, f, ap (λ z. z.0) (same_Some (sym (ap (option_map frame) f) ∙ sym (wires.frames c) ∙ ap (option_map frame) e)))

  net_stays : (n : Name) → IsNet N n → IsNet M n
  net_stays n s = ⊎_elim
      (λ r. (None, wires.new_nets n (contains_from_has new n r.0)))
      (λ r. (s.0, wires.old_nets n (λ h. r.0 (has_from_contains new n h)) ∙ s.1))
      (among new n)

  its_net : (j : NewJoint) → Contains joints j → IsNet M j.net
  its_net j h = ⊎_elim (λ i. net_stays j.net i) (λ i. (None, wires.new_nets j.net i)) (can.known j h)

  its_pin : (c : Name) (x : Component) (p n : Name) → get M.comps c ≡ Some x → get x.joined p ≡ Some n → IsPin x p × IsNet M n
  its_pin c x p n e f = ⊎_elim put kept (for_some joints c p)
    where
      on : net_of M (CompPin c p) ≡ Some n
      on = ap (λ o. joined_at o p) e ∙ f

      same : (y : Component) → y.kind ≡ x.kind → IsPin y p → IsPin x p
      same y k r = (r.0, ap (λ k. fin.find name_cmp p (pins_of k)) (sym k) ∙ r.1)

      put : (j : NewJoint) × Has joints j × (j.comp ≡ c) × (j.pin ≡ p) → IsPin x p × IsNet M n
      put r =
          let h = contains_from_has joints r.0 r.1 in
          let y = can.pins r.0 h in
          let z = was c x e in
          let one : y.0 ≡ z.0 = same_Some (sym y.1 ∙ ap (get N.comps) r.2 ∙ z.1) in
          let at : net_of M (CompPin c p) ≡ Some r.0.net = subst (λ q. net_of M (CompPin q p) ≡ Some r.0.net) r.2 (subst (λ q. net_of M (CompPin r.0.comp q) ≡ Some r.0.net) r.3 (wires.put r.0 h)) in
          (same y.0 (ap (λ y. y.kind) one ∙ z.2) (subst (IsPin y.0) r.3 y.2), subst (IsNet M) (same_Some (sym at ∙ on)) (its_net r.0 h))

      kept : ((j : NewJoint) → Has joints j → (j.comp ≡ c) × (j.pin ≡ p) → ⊥) → IsPin x p × IsNet M n
      kept none =
          let z = was c x e in
          let old : get z.0.joined p ≡ Some n = ap (λ o. joined_at o p) (sym z.1) ∙ sym (wires.kept c p (λ j h a b. none j (has_from_contains joints j h) (a, b))) ∙ on in
          let w = is.pins c z.0 p n z.1 old in
          (same z.0 z.2 w.0, net_stays n w.1)

  whole : IsWellFormed M
  whole = record {
    names = λ c x e. let y = was c x e in subst (λ k. IsDistinct (eq_by_cmp name_cmp) (map (λ e. e.0) (pins_of k))) y.2 (is.names c y.0 y.1);
    rows = λ c x e. let y = was c x e in subst HasRows y.2 (is.rows c y.0 y.1);
    pins = its_pin;
    tops = λ t x e. net_stays x.net (is.tops t x e);
  }

pub still_well_formed : StillWellFormed
still_well_formed N joints new is can = whole N joints new is can
