-- The netlist of an issued design.
use Rattle.std.proofs.Common.{◌≡◌, true, cond, List, Option, Some, None, is_some, refl, sym, ap, ◌∙◌, inl, inr, ⊎_elim, ◌⊎◌}
use Rattle.std.specs.List.{find}
use Rattle.std.specs.Option.{option_map}
use Rattle.std.specs.Str.{bytes_eq}
use Rattle.std.specs.Cmp.Lexicographic.{nat_list_cmp_total}
use Rattle.std.specs.FinMap.{get, same_map}
use Rattle.std.specs.FinMap as fin
use Rattle.std.proofs.lemmas.Map.Lookups.{exact_bytes}
use Rattle.eco_def.specs.Named.{NamedComp, NamedDesign}
use Rattle.eco_common.specs.Joints.{NewJoint}
use Rattle.eco_issued_laws.specs.Changes.{changes_of, has_net}
use Rattle.eco_issued_laws.specs.Issued.{issued_design}
use Rattle.eco_net.specs.Netlist.{Name, name_cmp, Kind, Netlist, pins_of}
use Rattle.eco_net.proofs.Basics.{Has, contains_from_has, has_from_contains, same_Some}
use Rattle.eco_elaborate.specs.Netlists.{Kinds, centre_in, net_of_pin, component_in, known_comps, netlist_of}
use Rattle.eco_net.specs.Joints.{with_joints}
use Rattle.eco_elaborate.specs.Joinable.{CanJoin}
use Rattle.eco_elaborate.specs.Laws.{IssuedIs}
use Rattle.eco_elaborate.proofs.Names.{same_name}
use Rattle.eco_elaborate.proofs.Members.{found_passes}
use Rattle.eco_elaborate.proofs.Lookups.{comp_is, joined_is, same_netlist}
use Rattle.eco_elaborate.proofs.Joining.{IsFor, put_pins, with_pins, for_some, stays_joined, gets_joined, new_nets, each_pin}
use Rattle.eco_elaborate.proofs.Pins.{unmoved, moved}
use Rattle.eco_elaborate.proofs.Nets.{net_known, issued_net_is}

module _ (kinds : Kinds) (ties : List Name) (d : NamedDesign) (joints : List NewJoint) (nets : List Name) (can : CanJoin (netlist_of kinds ties d) joints nets) where
  abbrev e : NamedDesign
  e = issued_design (changes_of d joints nets) d

  abbrev N : Netlist
  N = netlist_of kinds ties d

  module _ (c : Name) (x : NamedComp × Kind) (is : find (λ x. bytes_eq x.0.name c) (known_comps kinds d) ≡ Some x) where
    its_name : x.0.name ≡ c
    its_name = same_name x.0.name c (found_passes (λ x. bytes_eq x.0.name c) (known_comps kinds d) x is).1

    its_component : get N.comps c ≡ Some (component_in kinds d x.0 x.1)
    its_component = comp_is kinds ties d c ∙ ap (option_map (λ x. component_in kinds d x.0 x.1)) is

    abbrev IsOn : Name → Type 0
    IsOn p = get (component_in kinds e x.0 x.1).joined p ≡ get (put_pins c (component_in kinds d x.0 x.1).joined joints) p

    -- a pin that a joint is of
    put : (p : Name) (j : NewJoint) → Has joints j → j.comp ≡ c → j.pin ≡ p → IsOn p
    put p j h f g =
        let in_list = contains_from_has joints j h in
        let y = can.pins j in_list in
        let same : y.0 ≡ component_in kinds d x.0 x.1 = same_Some (sym y.1 ∙ ap (get N.comps) f ∙ its_component) in
        let role : fin.find name_cmp p (pins_of x.1) ≡ Some y.2.0 = ap (λ k. fin.find name_cmp p (pins_of k)) (ap (λ z. z.kind) (sym same)) ∙ ap (λ q. fin.find name_cmp q (pins_of y.0.kind)) (sym g) ∙ y.2.1 in
        let one : (k : NewJoint) → Has joints k → IsFor k c p → k.net ≡ j.net = λ k i s. can.one_net k j (contains_from_has joints k i) in_list (s.0 ∙ sym f) (s.1 ∙ sym g) in
        let known : (has_net d j.net ≡ true) ⊎ Has nets j.net = ⊎_elim (λ i. inl (net_known kinds ties d j.net i)) (λ i. inr (has_from_contains nets j.net i)) (can.known j in_list) in
        joined_is kinds e x.0 x.1 p
        ∙ ap (λ o. cond (is_some o) (net_of_pin e x.0.name p) None) role
        ∙ ap (λ z. net_of_pin e z p) its_name
        ∙ moved d joints nets c p j h (f, g) (can.named j in_list) one known
        ∙ sym (gets_joined joints (component_in kinds d x.0 x.1).joined c p j.net one j h (f, g))

    -- a pin that none is of
    left : (p : Name) → ((j : NewJoint) → Has joints j → IsFor j c p → ⊥) → IsOn p
    left p none =
        joined_is kinds e x.0 x.1 p
        ∙ ap (λ o. cond (is_some (fin.find name_cmp p (pins_of x.1))) o None) (ap (λ z. net_of_pin e z p) its_name ∙ unmoved d joints nets c p none ∙ ap (λ z. net_of_pin d z p) (sym its_name))
        ∙ sym (joined_is kinds d x.0 x.1 p)
        ∙ sym (stays_joined joints (component_in kinds d x.0 x.1).joined c p none)

    same_joined : (component_in kinds e x.0 x.1).joined ≡ put_pins c (component_in kinds d x.0 x.1).joined joints
    same_joined = same_map nat_list_cmp_total exact_bytes _ _ (λ p. ⊎_elim (λ r. put p r.0 r.1 r.2 r.3) (λ none. left p none) (for_some joints c p))

    same_component : component_in kinds e x.0 x.1 ≡ with_pins joints c (component_in kinds d x.0 x.1)
    same_component = λ i. record { kind = x.1; place = centre_in kinds d.units x.0; joined = same_joined i }

  issued_comp : (c : Name) → get (netlist_of kinds ties e).comps c ≡ get (with_joints N joints nets).comps c
  issued_comp c =
      comp_is kinds ties e c
      ∙ go (find (λ x. bytes_eq x.0.name c) (known_comps kinds d)) refl
      ∙ ap (option_map (with_pins joints c)) (sym (comp_is kinds ties d c))
      ∙ sym (each_pin N.comps joints c)
    where
      go : (o : Option (NamedComp × Kind)) → find (λ x. bytes_eq x.0.name c) (known_comps kinds d) ≡ o →
          option_map (λ x. component_in kinds e x.0 x.1) o ≡ option_map (with_pins joints c) (option_map (λ x. component_in kinds d x.0 x.1) o)
      go None f = refl
      go (Some x) f = ap Some (same_component c x f)

  same : netlist_of kinds ties e ≡ with_joints N joints nets
  same = same_netlist (netlist_of kinds ties e) (with_joints N joints nets)
      (λ q. issued_net_is d joints nets kinds ties (λ n h. can.unknown n (contains_from_has nets n h)) q ∙ sym (new_nets N.nets nets q))
      issued_comp
      (λ t. refl)
      refl
      refl

pub issued_is : IssuedIs
issued_is kinds ties d joints nets can = same kinds ties d joints nets can
