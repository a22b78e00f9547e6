-- The netlist of a design, described by what its statements say (LEF/DEF 5.8 Language Reference, "Components", "Pins", "Nets",
-- "Special Nets").
use Rattle.std.specs.Prelude.{◌≡◌, ◌↔◌, ◌⊎◌, Bool, true, false, List, Some}
use Rattle.std.specs.List.{Contains, IsDistinct}
use Rattle.std.specs.Ordering.{eq_by_cmp}
use Rattle.std.specs.FinMap.{get}
use Rattle.std.specs.FinSet.{from_list, empty}
use Rattle.eco_def.specs.Named.{NamedComp, NamedPin, NamedNet, NamedDesign}
use Rattle.eco_common.specs.Joints.{NewJoint}
use Rattle.eco_common.specs.Sizes.{keeps_limit}
use Rattle.eco_issued_laws.specs.Changes.{is_no_component, stands, has_net, statements}
use Rattle.eco_net.specs.Netlist.{Name, name_cmp, Kind, Component, Top, Netlist, IsNet, IsPin, HasRows}
use Rattle.eco_elaborate.specs.Netlists.{Kinds, centre_in, supply_by, kind_pins, top_of}
use Rattle.eco_net.specs.Joints.{OneNetEach}

-- a kind's pins have distinct names, and its tables have their rows
abbrev pub AreWellFormed : Kinds → Type 0
AreWellFormed kinds = (model : Name) (k : Kind) → kinds.kind model ≡ Some k → IsDistinct (eq_by_cmp name_cmp) (kind_pins k) × HasRows k

-- no macro is wider or higher than 10,000 microns
abbrev pub AreSized : Kinds → Type 0
AreSized kinds = (model : Name) → keeps_limit (kinds.size model) ≡ true

-- a statement of the net has the pin's joint
abbrev pub IsOn : NamedDesign → Name → Name → Name → Type 0
IsOn d c p n = stands (statements d) (record { comp = c; pin = p; net = n }) ≡ true

-- a statement makes the net a supply of the value
abbrev pub IsSupply : NamedDesign → Name → Bool → Type 0
IsSupply d n b = (s : NamedNet) × Contains (statements d) s × (s.name ≡ n) × (supply_by s.usage ≡ Some b)

-- components of one name are one, and so are top pins
pub record NamesOnce (d : NamedDesign) : Type 0 where
  pub comps : (a b : NamedComp) → Contains d.comps a → Contains d.comps b → a.name ≡ b.name → a ≡ b
  pub tops : (p q : NamedPin) → Contains d.pins p → Contains d.pins q → p.name ≡ q.name → p ≡ q

-- Each name stands once. No pin stands on two nets, supply pins aside, and no net is a supply of two values.
pub record IsConsistent (kinds : Kinds) (d : NamedDesign) : Type 0 where
  pub once : NamesOnce d
  pub one_net : (a : NamedComp) (k : Kind) (p n m : Name) → Contains d.comps a → kinds.kind a.model ≡ Some k → Contains (kind_pins k) p → IsOn d a.name p n → IsOn d a.name p m → n ≡ m
  pub supplies : (n : Name) (a b : Bool) → IsSupply d n a → IsSupply d n b → a ≡ b

-- The nets are those of the design, supplies where a statement makes them so. The components are those whose macros are
-- known, each with its kind and its doubled centre, and each of their pins is on the net whose statement has its joint. The top pins are
-- those of the design that aren't supply.
pub record IsNetlistOf (kinds : Kinds) (ties : List Name) (d : NamedDesign) (N : Netlist) : Type 0 where
  pub nets : (n : Name) → IsNet N n ↔ (has_net d n ≡ true)
  pub supplies : (n : Name) (b : Bool) → (get N.nets n ≡ Some (Some b)) ↔ IsSupply d n b
  pub comps : (c : Name) (x : Component) → get N.comps c ≡ Some x → (a : NamedComp) × Contains d.comps a × (a.name ≡ c) × (kinds.kind a.model ≡ Some x.kind) × (x.place ≡ centre_in kinds d.units a)
  pub all_comps : (a : NamedComp) (k : Kind) → Contains d.comps a → kinds.kind a.model ≡ Some k → (x : Component) × (get N.comps a.name ≡ Some x)
  pub pins : (c : Name) (x : Component) (p n : Name) → get N.comps c ≡ Some x → (get x.joined p ≡ Some n) ↔ (IsPin x p × IsOn d c p n)
  pub tops : (t : Name) (x : Top) → (get N.tops t ≡ Some x) ↔ ((p : NamedPin) × Contains d.pins p × (p.supply ≡ false) × (p.name ≡ t) × (top_of p ≡ x))
  pub tied : N.ties ≡ from_list ties
  pub reserved : N.reserved ≡ empty

-- The pins are those of components of the design whose macros are known, PIN and * aside, and none is put on two nets. Each
-- net is one of the design or new, and the new ones aren't in it.
pub record CanJoinIn (kinds : Kinds) (d : NamedDesign) (joints : List NewJoint) (new : List Name) : Type 0 where
  pub pins : (j : NewJoint) → Contains joints j → (a : NamedComp) × (k : Kind) × Contains d.comps a × (a.name ≡ j.comp) × (kinds.kind a.model ≡ Some k) × Contains (kind_pins k) j.pin
  pub named : (j : NewJoint) → Contains joints j → is_no_component j.comp ≡ false
  pub one_net : OneNetEach joints
  pub known : (j : NewJoint) → Contains joints j → (has_net d j.net ≡ true) ⊎ Contains new j.net
  pub unknown : (n : Name) → Contains new n → has_net d n ≡ false
