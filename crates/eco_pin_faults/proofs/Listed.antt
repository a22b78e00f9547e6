-- Designs that can be listed and whose joints that name no component are right.
use Rattle.std.proofs.Common.{◌≡◌, ℕ, true, false, List, map, None, sym, ap, ◌∙◌, subst, ⊎_elim}
use Rattle.std.specs.List.{list_all}
use Rattle.std.proofs.lemmas.Bool.{cases_Bool}
use Rattle.eco_def.specs.declared.design.Design.{Design}
use Rattle.eco_def.specs.Named.{NamedJoint, NamedNet, joint_names}
use Rattle.eco_def.specs.View.{joint_in}
use Rattle.eco_def.specs.Sections.{IsReadingOf}
use Rattle.eco_common.specs.Joints.{NewJoint}
use Rattle.eco_issued_laws.specs.Changes.{is_no_component, statements}
use Rattle.eco_net.proofs.Basics.{Has, contains_from_has, has_of_map, has_map}
use Rattle.eco_elaborate.specs.Netlists.{Kinds, Powers}
use Rattle.eco_elaborate.specs.Stated.{named_net, stated_pins, all_pins_on, joint_on_net}
use Rattle.eco_elaborate.specs.Described.{IsOn}
use Rattle.eco_elaborate.specs.Building.{IsPinOf, IsSupplyPinOf}
use Rattle.eco_elaborate.proofs.Stating.{from_text, of_flat_map, in_flat_map, in_pins, stands_of_pin}
use Rattle.eco_pin_faults.specs.Places.{PinPlace, joint_place, joints_on, joints, places}
use Rattle.eco_pin_faults.specs.Pins.{parts_of}
use Rattle.eco_pin_faults.specs.Faults.{named, is_unknown, is_on_second, first_unknown, first_differing, is_right}
use Rattle.eco_pin_faults.specs.Laws.{AreKnown, OnOneNet, NamesPin, SignalPin, SupplyPin, IsSignal, OfTop, OfComp, IsSamePin, IsSecond, NoneWrong}
use Rattle.eco_pin_faults.proofs.First.{first_among}
use Rattle.eco_pin_faults.proofs.Finding.{none_found}
use Rattle.eco_pin_faults.proofs.InWords.{unknown_not}
use Rattle.eco_pin_faults.proofs.Seconds.{second_said}
use Rattle.eco_pin_faults.proofs.Standing.{of_places}
use Rattle.eco_pin_faults.proofs.Known.{once, top_is_none}
use Rattle.eco_pin_faults.proofs.TopJoints.{names, on_one}

module _ (text : List ℕ) (d : Design) where
  -- the statement of a joint, and the joint in it, by their names
  pub statement_of : (p : PinPlace) → Has (joints text d) p → (s : NamedNet) × (j : NamedJoint) × Has (statements (named text d)) s × Has s.joints j × (j.comp ≡ p.comp) × (j.pin ≡ p.pin) × (s.name ≡ p.net)
  statement_of p h =
      let s = of_flat_map (joints_on text) d.nets p h in
      let j = has_of_map (joint_place text s.0) s.0.joints p s.2 in (
        named_net text s.0,
        joint_names (joint_in text j.0),
        from_text text d (named_net text s.0) (has_map (named_net text) d.nets s.0 s.1),
        has_map joint_names (map (joint_in text) s.0.joints) (joint_in text j.0) (has_map (joint_in text) s.0.joints j.0 j.1),
        ap (λ (q : PinPlace). q.comp) j.2,
        ap (λ (q : PinPlace). q.pin) j.2,
        ap (λ (q : PinPlace). q.net) j.2,
      )

  -- the pin of a component's joint is on the joint's net
  pub on_its_net : (p : PinPlace) → Has (joints text d) p → is_no_component p.comp ≡ false → IsOn (named text d) p.comp p.pin p.net
  on_its_net p h e =
      let s = statement_of p h in
      let ss = statements (named text d) in
      let x : NewJoint = record { comp = p.comp; pin = p.pin; net = p.net } in
      let same : joint_on_net s.0.name s.1 ≡ x = λ i. record { comp = s.4 i; pin = s.5 i; net = s.6 i } in
      stands_of_pin ss x (subst (Has (all_pins_on ss)) same (in_flat_map stated_pins ss s.0 (joint_on_net s.0.name s.1) s.2 (in_pins s.0 s.1 s.3 (ap is_no_component s.4 ∙ e))))

module _ (kinds : Kinds) (powers : Powers) (text : List ℕ) (d : Design) (r : IsReadingOf text d) (known : AreKnown kinds powers (named text d)) (one : OnOneNet kinds (named text d)) (all : list_all (is_right (named text d)) (joints text d) ≡ true) where
  joint_named : (p : PinPlace) → Has (joints text d) p → NamesPin kinds powers (named text d) p
  joint_named p h = ⊎_elim
      (λ t. names kinds powers text d r all p (contains_from_has (joints text d) p h) t)
      (λ f.
      let s = statement_of text d p h in
      ⊎_elim
      (λ i. SignalPin f (subst (λ n. IsPinOf kinds (named text d) p.comp n) s.5 (subst (λ m. IsPinOf kinds (named text d) m s.1.pin) s.4 i)))
      (λ i. SupplyPin f (subst (λ n. IsSupplyPinOf powers (named text d) p.comp n) s.5 (subst (λ m. IsSupplyPinOf powers (named text d) m s.1.pin) s.4 i)))
      (known s.0 s.1 (contains_from_has (statements (named text d)) s.0 s.2) (contains_from_has s.0.joints s.1 s.3) (ap is_no_component s.4 ∙ f)))
      (cases_Bool (is_no_component p.comp))

  pub none_unknown : first_unknown kinds powers text d ≡ None
  none_unknown = none_found (is_unknown kinds powers (parts_of (named text d))) (joints text d) (λ p h. ⊎_elim
      (λ t. absurd (unknown_not kinds powers (named text d) (once text d r) p t (joint_named p h)))
      (λ f. f)
      (cases_Bool (is_unknown kinds powers (parts_of (named text d)) p)))

  -- a place of a component's pin is a joint
  comp_joint : (p : PinPlace) → Has (places text d) p → is_no_component p.comp ≡ false → Has (joints text d) p
  comp_joint p h e = ⊎_elim (λ j. j) (λ t. absurd (top_is_none p.comp (sym (ap (λ (q : PinPlace). q.comp) t.2)) e)) (of_places text d p h)

  not_second : (p : PinPlace) → Has (places text d) p → IsSecond kinds (named text d) (places text d) p → ⊥
  not_second p h s = go s.signal
    where
      go : IsSignal kinds (named text d) p.comp p.pin → ⊥
      go (OfTop e t i n l) = on_one kinds powers text d r all p (contains_from_has (places text d) p h) e s
      go (OfComp e i) =
          let f = s.first in
          let w = s.is_first.holds in
          let fe : is_no_component f.comp ≡ false = ap is_no_component w.0 ∙ e in
          let fj = comp_joint f (first_among (IsSamePin p) (places text d) f s.is_first) fe in
          let on : IsOn (named text d) p.comp p.pin f.net = subst (λ n. IsOn (named text d) p.comp n f.net) w.1 (subst (λ m. IsOn (named text d) m f.pin f.net) w.0 (on_its_net text d f fj fe)) in
          s.differs (one p.comp p.pin f.net p.net i on (on_its_net text d p (comp_joint p h e) e))

  pub none_differs : first_differing kinds text d ≡ None
  none_differs = none_found (is_on_second kinds (parts_of (named text d)) (places text d)) (places text d) (λ p h. ⊎_elim
      (λ t. absurd (not_second p h (second_said kinds (λ m p. false) (named text d) (once text d r) (places text d) p t)))
      (λ f. f)
      (cases_Bool (is_on_second kinds (parts_of (named text d)) (places text d) p)))

pub none_wrong : NoneWrong
none_wrong kinds powers text d N r listed all = (none_unknown kinds powers text d r listed.joints listed.one_net all, none_differs kinds powers text d r listed.joints listed.one_net all)
