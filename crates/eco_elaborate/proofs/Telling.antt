-- The netlist of a design is the one that its statements tell.
use Rattle.std.proofs.Common.{◌≡◌, ◌↔◌, Bool, true, false, cond, List, Option, Some, None, is_some, refl, sym, ap, ◌∙◌, subst}
use Rattle.std.specs.List.{Contains}
use Rattle.std.specs.Cmp.Lexicographic.{nat_list_cmp_total}
use Rattle.std.specs.FinMap.{get, same_map}
use Rattle.std.specs.FinMap as fin
use Rattle.std.proofs.lemmas.Map.Lookups.{exact_bytes}
use Rattle.eco_def.specs.Named.{NamedComp, NamedPin, NamedDesign}
use Rattle.eco_net.specs.Netlist.{Name, name_cmp, Kind, Component, Top, Netlist, IsPin, pins_of}
use Rattle.eco_net.proofs.Basics.{Has, contains_from_has, has_from_contains, same_Some, not_None, has_found}
use Rattle.eco_elaborate.specs.Netlists.{Kinds, centre_in, net_of_pin, kind_pins, component_in, top_of, netlist_of}
use Rattle.eco_issued_laws.specs.Changes.{statements}
use Rattle.eco_elaborate.specs.Described.{IsOn, IsConsistent, IsNetlistOf}
use Rattle.eco_elaborate.specs.Laws.{NetlistIs}
use Rattle.eco_elaborate.proofs.Lookups.{joined_is, same_netlist}
use Rattle.eco_elaborate.proofs.Nets.{net_known, known_net}
use Rattle.eco_elaborate.proofs.Pins.{net_by_one}
use Rattle.eco_elaborate.proofs.Found.{supply_said, said_supply, comp_said, said_comp, top_said, said_top, on_first, on_statement, statement_on}

-- ---- the pins of one component

module _ (kinds : Kinds) (d : NamedDesign) (a : NamedComp) (k : Kind) where
  has_pin : (p : Name) (o : Bool) → is_some (fin.find name_cmp p (pins_of k)) ≡ o → (n : Name) → cond o (net_of_pin d a.name p) None ≡ Some n → IsPin (component_in kinds d a k) p × IsOn d a.name p n
  has_pin p true e n f = (found (fin.find name_cmp p (pins_of k)) refl e, on_first d a.name p n f)
    where
      found : (o : Option _) → fin.find name_cmp p (pins_of k) ≡ o → is_some o ≡ true → IsPin (component_in kinds d a k) p
      found None g h = absurd (not_true h)
        where
          not_true : false ≡ true → ⊥
          not_true z = cc
      found (Some r) g h = (r, g)
  has_pin p false e n f = absurd (not_None (sym f))

  pub pin_said : (p n : Name) → get (component_in kinds d a k).joined p ≡ Some n → IsPin (component_in kinds d a k) p × IsOn d a.name p n
  pin_said p n e = has_pin p (is_some (fin.find name_cmp p (pins_of k))) refl n (sym (joined_is kinds d a k p) ∙ e)

  pub said_pin : IsConsistent kinds d → Has d.comps a → kinds.kind a.model ≡ Some k → (p n : Name) → IsPin (component_in kinds d a k) p → IsOn d a.name p n → get (component_in kinds d a k).joined p ≡ Some n
  said_pin is in_design known p n pin on =
      let s = on_statement d a.name p n on in
      let named : Contains (kind_pins k) p = contains_from_has (kind_pins k) p (has_found (pins_of k) p pin.0 pin.1) in
      joined_is kinds d a k p
      ∙ ap (λ o. cond (is_some o) (net_of_pin d a.name p) None) pin.1
      ∙ net_by_one a.name p n (statements d) s.0 s.1 s.3 (λ z h f. is.one_net a k p z.name n (contains_from_has d.comps a in_design) known named (statement_on d a.name p z.name z h refl f) on)

-- ---- what the netlist of a design is

module _ (kinds : Kinds) (ties : List Name) (d : NamedDesign) (is : IsConsistent kinds d) where
  abbrev N : Netlist
  N = netlist_of kinds ties d

  pins_told : (c : Name) (x : Component) (p n : Name) → get N.comps c ≡ Some x → (get x.joined p ≡ Some n) ↔ (IsPin x p × IsOn d c p n)
  pins_told c x p n e =
      let y = comp_said kinds ties d c x e in
      subst (λ z. (get z.joined p ≡ Some n) ↔ (IsPin z p × IsOn d c p n)) y.4
      (subst (λ q. (get (component_in kinds d y.0.0 y.0.1).joined p ≡ Some n) ↔ (IsPin (component_in kinds d y.0.0 y.0.1) p × IsOn d q p n)) y.2
      (pin_said kinds d y.0.0 y.0.1 p n, λ r. said_pin kinds d y.0.0 y.0.1 is y.1 y.3 p n r.0 r.1))

  tops_told : (t : Name) (x : Top) → (get N.tops t ≡ Some x) ↔ ((p : NamedPin) × Contains d.pins p × (p.supply ≡ false) × (p.name ≡ t) × (top_of p ≡ x))
  tops_told t x = (
    λ e. let r = top_said kinds ties d t x e in (r.0, contains_from_has d.pins r.0 r.1, r.2, r.3, r.4),
    λ r.
        let q = said_top kinds ties d r.0 (has_from_contains d.pins r.0 r.1) r.2 in
        let same : q.0 ≡ r.0 = is.once.tops q.0 r.0 (contains_from_has d.pins q.0 q.1) r.1 q.2 in
        ap (get N.tops) (sym r.3) ∙ q.3 ∙ ap (λ p. Some (top_of p)) same ∙ ap Some r.4,
  )

  told : IsNetlistOf kinds ties d N
  told = record {
    nets = λ n. (net_known kinds ties d n, known_net kinds ties d n);
    supplies = λ n b. (supply_said kinds ties d n b, λ s. said_supply kinds ties d n b (λ a t. is.supplies n a b t s) s);
    comps = λ c x e.
        let y = comp_said kinds ties d c x e in
        (y.0.0, contains_from_has d.comps y.0.0 y.1, y.2, y.3 ∙ ap (λ z. Some z.kind) y.4, ap (λ z. z.place) (sym y.4));
    all_comps = λ a k h e. said_comp kinds ties d a k (has_from_contains d.comps a h) e;
    pins = pins_told;
    tops = tops_told;
    tied = refl;
    reserved = refl;
  }

-- ---- no other netlist is told

-- two that hold the same values are equal
same_option : {A : Type 0} (o p : Option A) → ((x : A) → o ≡ Some x → p ≡ Some x) → ((x : A) → p ≡ Some x → o ≡ Some x) → o ≡ p
same_option None None to from = refl
same_option None (Some x) to from = from x refl
same_option (Some x) p to from = sym (to x refl)

-- two that are nets alike, and supplies of the same values
same_net : (o p : Option (Option Bool)) → ((s : Option Bool) → o ≡ Some s → (t : Option Bool) × (p ≡ Some t)) → ((s : Option Bool) → p ≡ Some s → (t : Option Bool) × (o ≡ Some t)) →
    ((b : Bool) → o ≡ Some (Some b) → p ≡ Some (Some b)) → ((b : Bool) → p ≡ Some (Some b) → o ≡ Some (Some b)) → o ≡ p
same_net None None to from supply supplied = refl
same_net None (Some s) to from supply supplied = absurd (not_None (sym (from s refl).1))
same_net (Some (Some b)) p to from supply supplied = sym (supply b refl)
same_net (Some None) None to from supply supplied = absurd (not_None (sym (to None refl).1))
same_net (Some None) (Some None) to from supply supplied = refl
same_net (Some None) (Some (Some b)) to from supply supplied = supplied b refl

module _ (kinds : Kinds) (ties : List Name) (d : NamedDesign) (is : IsConsistent kinds d) (M N : Netlist) (m : IsNetlistOf kinds ties d M) (n : IsNetlistOf kinds ties d N) where
  nets_alike : (q : Name) → get M.nets q ≡ get N.nets q
  nets_alike q = same_net (get M.nets q) (get N.nets q)
      (λ s e. (n.nets q).1 ((m.nets q).0 (s, e)))
      (λ s e. (m.nets q).1 ((n.nets q).0 (s, e)))
      (λ b e. (n.supplies q b).1 ((m.supplies q b).0 e))
      (λ b e. (m.supplies q b).1 ((n.supplies q b).0 e))

  tops_alike : (t : Name) → get M.tops t ≡ get N.tops t
  tops_alike t = same_option (get M.tops t) (get N.tops t) (λ x e. (n.tops t x).1 ((m.tops t x).0 e)) (λ x e. (m.tops t x).1 ((n.tops t x).0 e))

  comps_alike : (c : Name) → get M.comps c ≡ get N.comps c
  comps_alike c = go (get M.comps c) refl (get N.comps c) refl
    where
      same : (x y : Component) → get M.comps c ≡ Some x → get N.comps c ≡ Some y → x ≡ y
      same x y e f =
          let a = m.comps c x e in
          let b = n.comps c y f in
          let one : a.0 ≡ b.0 = is.once.comps a.0 b.0 a.1 b.1 (a.2 ∙ sym b.2) in
          let kind : x.kind ≡ y.kind = same_Some (sym a.3 ∙ ap (λ z. kinds.kind z.model) one ∙ b.3) in
          let place : x.place ≡ y.place = a.4 ∙ ap (centre_in kinds d.units) one ∙ sym b.4 in
          let role : (p : Name) → fin.find name_cmp p (pins_of x.kind) ≡ fin.find name_cmp p (pins_of y.kind) = λ p. ap (λ k. fin.find name_cmp p (pins_of k)) kind in
          let joined : x.joined ≡ y.joined = same_map nat_list_cmp_total exact_bytes _ _ (λ p. same_option (get x.joined p) (get y.joined p)
          (λ q g. let r = (m.pins c x p q e).0 g in (n.pins c y p q f).1 ((r.0.0, sym (role p) ∙ r.0.1), r.1))
          (λ q g. let r = (n.pins c y p q f).0 g in (m.pins c x p q e).1 ((r.0.0, role p ∙ r.0.1), r.1))) in
          λ i. record { kind = kind i; place = place i; joined = joined i }

      go : (o : Option Component) → get M.comps c ≡ o → (p : Option Component) → get N.comps c ≡ p → o ≡ p
      go None e None f = refl
      go None e (Some y) f =
          let b = n.comps c y f in
          let x = m.all_comps b.0 y.kind b.1 b.3 in
          absurd (not_None (sym (ap (get M.comps) (sym b.2) ∙ x.1) ∙ e))
      go (Some x) e None f =
          let a = m.comps c x e in
          let y = n.all_comps a.0 x.kind a.1 a.3 in
          absurd (not_None (sym (ap (get N.comps) (sym a.2) ∙ y.1) ∙ f))
      go (Some x) e (Some y) f = ap Some (same x y e f)

  alike : M ≡ N
  alike = same_netlist M N nets_alike comps_alike tops_alike (m.tied ∙ sym n.tied) (m.reserved ∙ sym n.reserved)

pub netlist_is : NetlistIs
netlist_is kinds ties d is M =
    let n = told kinds ties d is in
    (λ m. alike kinds ties d is M (netlist_of kinds ties d) m n, λ e. subst (IsNetlistOf kinds ties d) (sym e) n)
