-- The joints of a design's statements among its places.
use Rattle.std.proofs.Common.{◌≡◌, ℕ, nat_lt, Bool, false, not, List, ◌++◌, map, sym, ap, ◌∙◌, subst, inl, inr, ⊎_elim, ◌⊎◌}
use Rattle.std.specs.List.{Contains, filter}
use Rattle.std.proofs.lemmas.Bool.{cases_Bool}
use Rattle.eco_def.specs.declared.design.NetStatement.{NetStatement}
use Rattle.eco_def.specs.declared.design.TopPin.{TopPin}
use Rattle.eco_def.specs.declared.design.Design.{Design}
use Rattle.eco_def.specs.Named.{NamedPin, NamedJoint, NamedNet, joint_names, pin_names}
use Rattle.eco_def.specs.View.{joint_in, pin_in}
use Rattle.eco_common.specs.Joints.{NewJoint}
use Rattle.eco_issued_laws.specs.Changes.{is_no_component, statements}
use Rattle.eco_net.specs.Netlist.{Name}
use Rattle.eco_net.proofs.Basics.{Has, contains_from_has, has_from_contains, has_map, has_of_map, has_append_left, has_append_right}
use Rattle.eco_elaborate.specs.Stated.{named_net, named_pin, stated_pins}
use Rattle.eco_elaborate.specs.Described.{IsOn}
use Rattle.eco_elaborate.proofs.Members.{has_of_append, of_filter, in_filter}
use Rattle.eco_elaborate.proofs.Stating.{to_text, of_flat_map, in_flat_map, pin_of_stands, of_pins}
use Rattle.eco_pin_faults.specs.Places.{PinPlace, joint_place, joints_on, joints_among, top_place, pins_start, joints, places}
use Rattle.eco_pin_faults.specs.Faults.{named}

module _ (text : List ℕ) (d : Design) where
  abbrev start : ℕ
  start = pins_start d.pins

  abbrev before : NetStatement → Bool
  before s = nat_lt s.start start

  abbrev front : List PinPlace
  front = joints_among text (filter before d.nets)

  abbrev tops : List PinPlace
  tops = map (top_place text) d.pins

  abbrev back : List PinPlace
  back = joints_among text (filter (λ s. not (before s)) d.nets)

  -- a joint by its words
  pub has_joint : (s : NamedNet) (j : NamedJoint) → Has (statements (named text d)) s → Has s.joints j → (p : PinPlace) × Has (joints text d) p × (p.comp ≡ j.comp) × (p.pin ≡ j.pin) × (p.net ≡ s.name)
  has_joint s j h i =
      let t = has_of_map (named_net text) d.nets s (to_text text d s h) in
      let k = subst (λ (z : NamedNet). Has z.joints j) (sym t.2) i in
      let u = has_of_map joint_names (map (joint_in text) t.0.joints) j k in
      let v = has_of_map (joint_in text) t.0.joints u.0 u.1 in
      let same : joint_names (joint_in text v.0) ≡ j = ap joint_names v.2 ∙ u.2 in (
        joint_place text t.0 v.0,
        in_flat_map (joints_on text) d.nets t.0 (joint_place text t.0 v.0) t.1 (has_map (joint_place text t.0) t.0.joints v.0 v.1),
        ap (λ (z : NamedJoint). z.comp) same,
        ap (λ (z : NamedJoint). z.pin) same,
        ap (λ (z : NamedNet). z.name) t.2,
      )

  -- each joint is a place
  pub joint_among : (p : PinPlace) → Has (joints text d) p → Has (places text d) p
  joint_among p h =
      let s = of_flat_map (joints_on text) d.nets p h in
      ⊎_elim
      (λ t. has_append_left front (tops ++ back) p (in_flat_map (joints_on text) (filter before d.nets) s.0 p (in_filter before d.nets s.0 s.1 t) s.2))
      (λ f. has_append_right front (tops ++ back) p (has_append_right tops back p (in_flat_map (joints_on text) (filter (λ s. not (before s)) d.nets) s.0 p (in_filter (λ s. not (before s)) d.nets s.0 s.1 (ap not f)) s.2)))
      (cases_Bool (before s.0))

  pub top_among : (t : TopPin) → Has d.pins t → Has (places text d) (top_place text t)
  top_among t h = has_append_right front (tops ++ back) (top_place text t) (has_append_left tops back (top_place text t) (has_map (top_place text) d.pins t h))

  some_joint : (test : NetStatement → Bool) (p : PinPlace) → Has (joints_among text (filter test d.nets)) p → Has (joints text d) p
  some_joint test p h =
      let s = of_flat_map (joints_on text) (filter test d.nets) p h in
      in_flat_map (joints_on text) d.nets s.0 p (of_filter test d.nets s.0 s.1).0 s.2

  -- a place is a joint or a top pin
  pub of_places : (p : PinPlace) → Has (places text d) p → Has (joints text d) p ⊎ ((t : TopPin) × Has d.pins t × (top_place text t ≡ p))
  of_places p h = ⊎_elim
      (λ i. inl (some_joint before p i))
      (λ i. ⊎_elim (λ k. inr (has_of_map (top_place text) d.pins p k)) (λ k. inl (some_joint (λ s. not (before s)) p k)) (has_of_append tops back p i))
      (has_of_append front (tops ++ back) p h)

  -- a top pin by its names
  pub named_top : (t : NamedPin) → Contains (named text d).pins t → (u : TopPin) × Has d.pins u × (named_pin text u ≡ t)
  named_top t h =
      let a = has_of_map pin_names (map (pin_in text) d.pins) t (has_from_contains (named text d).pins t h) in
      let b = has_of_map (pin_in text) d.pins a.0 a.1 in
      (b.0, b.1, ap pin_names b.2 ∙ a.2)

  pub top_named : (u : TopPin) → Has d.pins u → Contains (named text d).pins (named_pin text u)
  top_named u h = contains_from_has (named text d).pins (named_pin text u) (has_map pin_names (map (pin_in text) d.pins) (pin_in text u) (has_map (pin_in text) d.pins u h))

  -- a pin that is on a net has a place there
  pub place_on : (c p n : Name) → IsOn (named text d) c p n → (is_no_component c ≡ false) × ((q : PinPlace) × Has (places text d) q × (q.comp ≡ c) × (q.pin ≡ p) × (q.net ≡ n))
  place_on c p n on =
      let ss = statements (named text d) in
      let x : NewJoint = record { comp = c; pin = p; net = n } in
      let s = of_flat_map stated_pins ss x (pin_of_stands ss x on) in
      let j = of_pins s.0 x s.2 in
      let q = has_joint s.0 j.0 s.1 j.1 in
      let comp : j.0.comp ≡ c = ap (λ (y : NewJoint). y.comp) j.3 in
      let pin : j.0.pin ≡ p = ap (λ (y : NewJoint). y.pin) j.3 in
      let net : s.0.name ≡ n = ap (λ (y : NewJoint). y.net) j.3 in
      (ap is_no_component (sym comp) ∙ j.2, (q.0, joint_among q.0 q.1, q.2 ∙ comp, q.3 ∙ pin, q.4 ∙ net))
