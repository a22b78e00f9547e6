-- What holds of the netlists of designs.
use Rattle.std.specs.Prelude.{◌≡◌, ◌↔◌, ℕ, true, false, ◌&&◌, List, [], None, Some, Ok}
use Rattle.std.specs.List.{Contains, IsDistinct}
use Rattle.std.specs.Str.{bytes_eq}
use Rattle.std.specs.FinMap.{get}
use Rattle.eco_def.specs.declared.design.Design.{Design as Read}
use Rattle.eco_def.specs.Design.{Design}
use Rattle.eco_def.specs.Grammar.{design_of}
use Rattle.eco_def.specs.Named.{NamedDesign, names_of}
use Rattle.eco_def.specs.View.{design_in}
use Rattle.eco_issued_laws.specs.Changes.{Changes, is_no_component, changes_of}
use Rattle.eco_common.specs.Joints.{NewJoint}
use Rattle.eco_issued_laws.specs.Issued.{issued_design}
use Rattle.eco_net.specs.Netlist.{Name, Component, Netlist, CompPin, IsWellFormed}
use Rattle.eco_net.specs.Drivers.{net_of}
use Rattle.eco_elaborate.specs.Netlists.{Kinds, netlist_of}
use Rattle.eco_elaborate.specs.Centres.{HasCentres}
use Rattle.eco_elaborate.specs.Described.{AreWellFormed, AreSized, NamesOnce, IsSupply, IsConsistent, IsNetlistOf, CanJoinIn}
use Rattle.eco_net.specs.Joints.{with_joints, IsRewired, OneNetEach}
use Rattle.eco_elaborate.specs.Joinable.{CanJoin}
use Rattle.eco_elaborate.specs.Stated.{named_nets}
use Rattle.eco_elaborate.specs.Building.{HasTwoValues, first_two_valued}

-- What with_joints gives is what it says, and nothing else is, where each pin is one of a component and is put on one net.
abbrev pub RewiredIs : Type 0
RewiredIs = (N : Netlist) (joints : List NewJoint) (new : List Name) → ((j : NewJoint) → Contains joints j → (x : Component) × (get N.comps j.comp ≡ Some x)) → OneNetEach joints →
    (M : Netlist) → IsRewired N joints new M ↔ (M ≡ with_joints N joints new)

-- A well-formed netlist stays well-formed.
abbrev pub StillWellFormed : Type 0
StillWellFormed = (N : Netlist) (joints : List NewJoint) (new : List Name) → IsWellFormed N → CanJoin N joints new → IsWellFormed (with_joints N joints new)

-- joints of distinct pins put no pin on two nets
abbrev pub ApartIs : Type 0
ApartIs = (joints : List NewJoint) → IsDistinct (λ j k. bytes_eq j.comp k.comp && bytes_eq j.pin k.pin) joints → OneNetEach joints

-- A component that is named PIN or * has no pin on a net, since no joint can name it.
abbrev pub NoneUnnamed : Type 0
NoneUnnamed = (kinds : Kinds) (ties : List Name) (d : NamedDesign) (c p n : Name) → net_of (netlist_of kinds ties d) (CompPin c p) ≡ Some n → is_no_component c ≡ false

-- What can be joined in a design can be joined in its netlist, and nothing else can.
abbrev pub CanJoinIs : Type 0
CanJoinIs = (kinds : Kinds) (ties : List Name) (d : NamedDesign) (joints : List NewJoint) (new : List Name) → NamesOnce d → CanJoinIn kinds d joints new ↔ CanJoin (netlist_of kinds ties d) joints new

-- The issued design has the netlist of the design with the new nets, and with the pins on their nets; all else is the same.
abbrev pub IssuedIs : Type 0
IssuedIs = (kinds : Kinds) (ties : List Name) (d : NamedDesign) (joints : List NewJoint) (new : List Name) → CanJoin (netlist_of kinds ties d) joints new →
    netlist_of kinds ties (issued_design (changes_of d joints new) d) ≡ with_joints (netlist_of kinds ties d) joints new

-- Issuing leaves the units, the components with their models and places, and the design's own pins as they are, in their order.
abbrev pub IssuingKeepsComponents : Type 0
IssuingKeepsComponents = (c : Changes) (d : NamedDesign) → ((issued_design c d).units ≡ d.units) × ((issued_design c d).comps ≡ d.comps) × ((issued_design c d).pins ≡ d.pins)

-- where no pin moves and no net is new, the design is issued as it is
abbrev pub NothingMoves : Type 0
NothingMoves = (d : NamedDesign) → issued_design (changes_of d [] []) d ≡ d

-- A consistent design has the netlist that its statements describe, and no other.
abbrev pub NetlistIs : Type 0
NetlistIs = (kinds : Kinds) (ties : List Name) (d : NamedDesign) → IsConsistent kinds d → (N : Netlist) → IsNetlistOf kinds ties d N ↔ (N ≡ netlist_of kinds ties d)

-- The places of a design that was read are doubled centres, which lie in their range, where each macro's size keeps the limit.
abbrev pub PlacesAreCentres : Type 0
PlacesAreCentres = (kinds : Kinds) (ties : List Name) (text : List ℕ) (d : Design) → design_of text ≡ Ok d → AreSized kinds → HasCentres (netlist_of kinds ties (names_of d))

-- in a design that was read each component and each top pin is named once
abbrev pub ReadOnce : Type 0
ReadOnce = (text : List ℕ) (d : Design) → design_of text ≡ Ok d → NamesOnce (names_of d)

-- The issued design is consistent too.
abbrev pub StillConsistent : Type 0
StillConsistent = (kinds : Kinds) (ties : List Name) (d : NamedDesign) (joints : List NewJoint) (new : List Name) → IsConsistent kinds d → CanJoin (netlist_of kinds ties d) joints new →
    IsConsistent kinds (issued_design (changes_of d joints new) d)

-- A design's netlist is well-formed: each pin that is on a net is a pin of its component, and each net that a pin is on is a net.
abbrev pub NetlistWellFormed : Type 0
NetlistWellFormed = (kinds : Kinds) (ties : List Name) (d : NamedDesign) → AreWellFormed kinds → IsWellFormed (netlist_of kinds ties d)

-- No statement gives its net another value as a supply than an earlier one exactly where no net is a supply of two values. The
-- net of the first that does is a supply of both.
abbrev pub TwoValuedIs : Type 0
TwoValuedIs = (text : List ℕ) (d : Read) → ((first_two_valued (named_nets text d.nets) ≡ None) ↔ (HasTwoValues (names_of (design_in text d)) → ⊥)) ×
    ((n : Name) → first_two_valued (named_nets text d.nets) ≡ Some n → IsSupply (names_of (design_in text d)) n true × IsSupply (names_of (design_in text d)) n false)
