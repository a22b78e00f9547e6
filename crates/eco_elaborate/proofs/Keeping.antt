-- An issued design is consistent where the design is, and a design's netlist is whole.
use Rattle.std.proofs.Common.{refl, false, Option, None, Some, ◌≡◌, Bool, List, sym, ap, ◌∙◌, subst, ⊎_elim, map}
use Rattle.std.specs.List.{IsDistinct}
use Rattle.std.specs.Ordering.{eq_by_cmp}
use Rattle.std.specs.FinMap.{get}
use Rattle.std.specs.List.{list_any}
use Rattle.std.specs.Str.{bytes_eq}
use Rattle.std.proofs.lemmas.Bool.{or_left, or_right}
use Rattle.eco_def.specs.Named.{NamedDesign}
use Rattle.eco_common.specs.Joints.{NewJoint}
use Rattle.eco_issued_laws.specs.Changes.{is_no_component, has_statement, changes_of, statements}
use Rattle.eco_issued_laws.specs.Issued.{issued_design}
use Rattle.eco_net.specs.Netlist.{Name, name_cmp, Component, Top, Netlist, IsNet, IsPin, IsWellFormed, HasRows, pins_of}
use Rattle.eco_net.specs.Drivers.{joined_at}
use Rattle.eco_net.proofs.Basics.{Has, contains_from_has, has_from_contains, not_None}
use Rattle.eco_elaborate.specs.Netlists.{Kinds, names_pin, netlist_of}
use Rattle.eco_elaborate.specs.Described.{AreWellFormed, IsOn, IsSupply, IsConsistent}
use Rattle.eco_elaborate.specs.Joinable.{CanJoin}
use Rattle.eco_elaborate.specs.Laws.{StillConsistent, NetlistWellFormed, NoneUnnamed}
use Rattle.eco_elaborate.proofs.Names.{is_name}
use Rattle.eco_elaborate.proofs.Members.{any_has, has_any}
use Rattle.eco_elaborate.proofs.Joining.{IsFor, for_some}
use Rattle.eco_elaborate.proofs.Statements.{names_parts}
use Rattle.eco_elaborate.proofs.Pins.{only, had}
use Rattle.eco_elaborate.proofs.Nets.{same_use, known_net}
use Rattle.eco_elaborate.proofs.Found.{comp_said, top_said, on_statement, statement_on}
use Rattle.eco_elaborate.proofs.Telling.{pin_said}

module _ (kinds : Kinds) (ties : List Name) (d : NamedDesign) (joints : List NewJoint) (new : List Name) (is : IsConsistent kinds d) (can : CanJoin (netlist_of kinds ties d) joints new) where
  abbrev e : NamedDesign
  e = issued_design (changes_of d joints new) d

  -- a pin that a joint is of stands on its net alone
  on_its_net : (c p n : Name) (j : NewJoint) → Has joints j → IsFor j c p → IsOn e c p n → n ≡ j.net
  on_its_net c p n j h f on =
      let s = on_statement e c p n on in
      let in_list = contains_from_has joints j h in
      sym s.2 ∙ only d joints new c p j h f (can.named j in_list) (λ k i g. can.one_net k j (contains_from_has joints k i) in_list (g.0 ∙ sym f.0) (g.1 ∙ sym f.1)) s.0 s.1 s.3

  -- and any other where it stood
  on_its_old : (c p n : Name) → ((j : NewJoint) → Has joints j → IsFor j c p → ⊥) → IsOn e c p n → IsOn d c p n
  on_its_old c p n none on =
      let s = on_statement e c p n on in
      let z = had d joints new c p none s.0 s.1 s.3 in
      statement_on d c p n z.0 z.1 (z.2 ∙ s.2) z.3

  supply_before : (n : Name) (b : Bool) → IsSupply e n b → IsSupply d n b
  supply_before n b s =
      let z = same_use d joints new s.0 b (has_from_contains (statements e) s.0 s.1) s.3 in
      (z.0, contains_from_has (statements d) z.0 z.1, z.2 ∙ s.2, z.3)

  consistent : IsConsistent kinds e
  consistent = record {
    once = record { comps = is.once.comps; tops = is.once.tops };
    one_net = λ a k p n m h known pin on also. ⊎_elim
        (λ r. on_its_net a.name p n r.0 r.1 (r.2, r.3) on ∙ sym (on_its_net a.name p m r.0 r.1 (r.2, r.3) also))
        (λ none. is.one_net a k p n m h known pin (on_its_old a.name p n none on) (on_its_old a.name p m none also))
        (for_some joints a.name p);
    supplies = λ n a b s t. is.supplies n a b (supply_before n a s) (supply_before n b t);
  }

pub still_consistent : StillConsistent
still_consistent kinds ties d joints new is can = consistent kinds ties d joints new is can

-- ---- whole netlists

module _ (kinds : Kinds) (ties : List Name) (d : NamedDesign) (each : AreWellFormed kinds) where
  abbrev N : Netlist
  N = netlist_of kinds ties d

  its_kind : (c : Name) (x : Component) → get N.comps c ≡ Some x → IsDistinct (eq_by_cmp name_cmp) (map (λ e. e.0) (pins_of x.kind)) × HasRows x.kind
  its_kind c x e =
      let y = comp_said kinds ties d c x e in
      subst (λ z. IsDistinct (eq_by_cmp name_cmp) (map (λ e. e.0) (pins_of z.kind)) × HasRows z.kind) y.4 (each y.0.0.model y.0.1 y.3)

  its_pin : (c : Name) (x : Component) (p n : Name) → get N.comps c ≡ Some x → get x.joined p ≡ Some n → IsPin x p × IsNet N n
  its_pin c x p n e f =
      let y = comp_said kinds ties d c x e in
      let r = pin_said kinds d y.0.0 y.0.1 p n (ap (λ z. get z.joined p) y.4 ∙ f) in
      let s = on_statement d y.0.0.name p n r.1 in
      (subst (λ z. IsPin z p) y.4 r.0, known_net kinds ties d n (or_left (has_statement (statements d) n) _ (has_any (λ s. bytes_eq s.name n) (statements d) s.0 s.1 (is_name s.0.name n s.2))))

  its_top : (t : Name) (x : Top) → get N.tops t ≡ Some x → IsNet N x.net
  its_top t x e =
      let p = top_said kinds ties d t x e in
      known_net kinds ties d x.net (or_right (has_statement (statements d) x.net) (list_any (λ p. bytes_eq p.net x.net) d.pins) (has_any (λ p. bytes_eq p.net x.net) d.pins p.0 p.1 (is_name p.0.net x.net (ap (λ z. z.net) p.4))))

  whole : IsWellFormed N
  whole = record { names = λ c x e. (its_kind c x e).0; rows = λ c x e. (its_kind c x e).1; pins = its_pin; tops = its_top }

pub netlist_well_formed : NetlistWellFormed
netlist_well_formed kinds ties d each = whole kinds ties d each

-- ---- components that no joint can name

pub none_unnamed : NoneUnnamed
none_unnamed kinds ties d c p n e = go (get (netlist_of kinds ties d).comps c) refl e
  where
    go : (o : Option Component) → get (netlist_of kinds ties d).comps c ≡ o → joined_at o p ≡ Some n → is_no_component c ≡ false
    go None f g = absurd (not_None (sym g))
    go (Some x) f g =
        let y = comp_said kinds ties d c x f in
        let r = pin_said kinds d y.0.0 y.0.1 p n (ap (λ z. get z.joined p) y.4 ∙ g) in
        let s = on_statement d y.0.0.name p n r.1 in
        let j = any_has (names_pin y.0.0.name p) s.0.joints s.3 in
        let named = names_parts y.0.0.name p j.0 j.2 in
        ap is_no_component (sym y.2 ∙ named.1) ∙ named.0
