-- What the answers say, in the words of netlists.
use Rattle.std.specs.Prelude.{◌≡◌, ◌≢◌, ◌↔◌, ℕ, true, false, List, ◌∷◌, ◌++◌, Option, Some, None, ◌⊎◌}
use Rattle.std.specs.List.{Contains, list_all}
use Rattle.eco_def.specs.declared.design.Design.{Design}
use Rattle.eco_def.specs.Named.{NamedComp, NamedPin, NamedJoint, NamedNet, NamedDesign}
use Rattle.eco_def.specs.Sections.{IsReadingOf}
use Rattle.eco_issued_laws.specs.Changes.{is_no_component, statements}
use Rattle.eco_net.specs.Netlist.{Name, Kind, Netlist}
use Rattle.eco_elaborate.specs.Netlists.{Kinds, Powers, kind_pins}
use Rattle.eco_elaborate.specs.Described.{IsOn}
use Rattle.eco_elaborate.specs.Building.{IsPinOf, IsSupplyPinOf, IsListed, HasUnknownPin, HasPinOnTwo}
use Rattle.eco_pin_faults.specs.Places.{PinPlace, top_word, every_word, joints, places}
use Rattle.eco_pin_faults.specs.Faults.{named, first_net, first_unknown, first_differing, first_pattern, is_right}

-- the first of these places at which a fact holds: at no place before it does it hold
pub record IsFirst (P : PinPlace → Type 0) (ps : List PinPlace) (p : PinPlace) : Type 0 where
  pub before : List PinPlace
  pub behind : List PinPlace
  pub stands : ps ≡ before ++ p ∷ behind
  pub holds : P p
  pub none : (q : PinPlace) → Contains before q → P q → ⊥

-- the first place at which the fact holds, and none where it holds at no place
abbrev pub FirstIs : (PinPlace → Type 0) → List PinPlace → Option PinPlace → Type 0
FirstIs P ps None = (q : PinPlace) → Contains ps q → P q → ⊥
FirstIs P ps (Some p) = IsFirst P ps p

-- ---- joints of no pin

-- What a joint names: every component that has the pin (in SPECIALNETS alone), a top pin, a pin of a component, or a supply pin
-- of one.
pub data NamesPin (kinds : Kinds) (powers : Powers) (d : NamedDesign) (p : PinPlace) : Type 0 where
  EachPin : p.special ≡ true → p.comp ≡ every_word → NamesPin kinds powers d p
  TopPin : p.comp ≡ top_word → (t : NamedPin) → Contains d.pins t → t.name ≡ p.pin → NamesPin kinds powers d p
  SignalPin : is_no_component p.comp ≡ false → IsPinOf kinds d p.comp p.pin → NamesPin kinds powers d p
  SupplyPin : is_no_component p.comp ≡ false → IsSupplyPinOf powers d p.comp p.pin → NamesPin kinds powers d p

-- the first unknown joint is the first that names no pin
abbrev pub UnknownIs : Type 0
UnknownIs = (kinds : Kinds) (powers : Powers) (text : List ℕ) (d : Design) → IsReadingOf text d →
    FirstIs (λ p. NamesPin kinds powers (named text d) p → ⊥) (joints text d) (first_unknown kinds powers text d)

-- ---- pins on two nets

-- a pin that isn't supply, of a component or of the design itself
pub data IsSignal (kinds : Kinds) (d : NamedDesign) (comp pin : Name) : Type 0 where
  OfTop : comp ≡ top_word → (t : NamedPin) → Contains d.pins t → t.name ≡ pin → t.supply ≡ false → IsSignal kinds d comp pin
  OfComp : is_no_component comp ≡ false → IsPinOf kinds d comp pin → IsSignal kinds d comp pin

abbrev pub IsSamePin : PinPlace → PinPlace → Type 0
IsSamePin p q = (q.comp ≡ p.comp) × (q.pin ≡ p.pin)

-- the place is of a pin that isn't supply and whose first place is on another net
pub record IsSecond (kinds : Kinds) (d : NamedDesign) (ps : List PinPlace) (p : PinPlace) : Type 0 where
  pub signal : IsSignal kinds d p.comp p.pin
  pub first : PinPlace
  pub is_first : IsFirst (IsSamePin p) ps first
  pub differs : first.net ≢ p.net

-- the first place that differs is the first on another net than its pin's first place
abbrev pub DifferingIs : Type 0
DifferingIs = (kinds : Kinds) (text : List ℕ) (d : Design) → IsReadingOf text d →
    FirstIs (IsSecond kinds (named text d) (places text d)) (places text d) (first_differing kinds text d)

-- the first net that is told of such a place is that at its pin's first place
abbrev pub FirstTold : Type 0
FirstTold = (kinds : Kinds) (d : NamedDesign) (ps : List PinPlace) (p : PinPlace) (s : IsSecond kinds d ps p) → first_net ps p.comp p.pin ≡ Some s.first.net

-- ---- patterns

-- a joint of * in SPECIALNETS with a pin that isn't supply on some component's macro
pub record IsPatternOnSignal (kinds : Kinds) (d : NamedDesign) (p : PinPlace) : Type 0 where
  pub special : p.special ≡ true
  pub every : p.comp ≡ every_word
  pub of : NamedComp
  pub kind : Kind
  pub found : Contains d.comps of
  pub known : kinds.kind of.model ≡ Some kind
  pub has : Contains (kind_pins kind) p.pin

abbrev pub PatternIs : Type 0
PatternIs = (kinds : Kinds) (text : List ℕ) (d : Design) → FirstIs (IsPatternOnSignal kinds (named text d)) (joints text d) (first_pattern kinds text d)

-- ---- designs in which no joint is unknown and no pin is on two nets

-- each joint of a component is of its pin or of its supply pin
abbrev pub AreKnown : Kinds → Powers → NamedDesign → Type 0
AreKnown kinds powers d = (s : NamedNet) (j : NamedJoint) → Contains (statements d) s → Contains s.joints j → is_no_component j.comp ≡ false → IsPinOf kinds d j.comp j.pin ⊎ IsSupplyPinOf powers d j.comp j.pin

-- no pin of a component is on two nets, supply pins aside
abbrev pub OnOneNet : Kinds → NamedDesign → Type 0
OnOneNet kinds d = (c p n m : Name) → IsPinOf kinds d c p → IsOn d c p n → IsOn d c p m → n ≡ m

-- Where no joint is unknown, each joint of a component is of its pin or of its supply pin.
abbrev pub JointsKnown : Type 0
JointsKnown = (kinds : Kinds) (powers : Powers) (text : List ℕ) (d : Design) → IsReadingOf text d → first_unknown kinds powers text d ≡ None → AreKnown kinds powers (named text d)

-- Where no place differs, no pin of a component is on two nets, supply pins aside.
abbrev pub OneNet : Type 0
OneNet = (kinds : Kinds) (text : List ℕ) (d : Design) → IsReadingOf text d → first_differing kinds text d ≡ None → OnOneNet kinds (named text d)

-- So a design in which a joint is unknown has a first unknown joint, and one in which a pin is on two nets has a first place
-- that differs.
abbrev pub ReasonsFound : Type 0
ReasonsFound = (kinds : Kinds) (powers : Powers) (text : List ℕ) (d : Design) → IsReadingOf text d →
    (first_unknown kinds powers text d ≡ None → HasUnknownPin kinds powers (named text d) → ⊥) × (first_differing kinds text d ≡ None → HasPinOnTwo kinds (named text d) → ⊥)

-- The joints that name no component are right exactly where none of them is unknown and no top pin is on two nets, supply
-- pins aside.
abbrev pub TopsAgreeIs : Type 0
TopsAgreeIs = (kinds : Kinds) (powers : Powers) (text : List ℕ) (d : Design) → IsReadingOf text d →
    (list_all (is_right (named text d)) (joints text d) ≡ true) ↔ (((p : PinPlace) → Contains (joints text d) p → is_no_component p.comp ≡ true → NamesPin kinds powers (named text d) p)
    × ((p : PinPlace) → Contains (places text d) p → p.comp ≡ top_word → IsSecond kinds (named text d) (places text d) p → ⊥))

-- Where a design is listed, and the joints that name no component are right, no joint is unknown and no place differs.
abbrev pub NoneWrong : Type 0
NoneWrong = (kinds : Kinds) (powers : Powers) (text : List ℕ) (d : Design) (N : Netlist) → IsReadingOf text d → IsListed kinds powers (named text d) N → list_all (is_right (named text d)) (joints text d) ≡ true →
    (first_unknown kinds powers text d ≡ None) × (first_differing kinds text d ≡ None)
