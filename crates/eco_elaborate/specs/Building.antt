-- What is listed of a design, and why a design has no netlist.
use Rattle.std.specs.Prelude.{◌≡◌, ◌≢◌, ◌⊎◌, true, false, not, List, [], Option, None, Some, Result, Ok, Err}
use Rattle.std.specs.List.{Contains, find}
use Rattle.std.specs.Option.{option_map}
use Rattle.eco_def.specs.Named.{NamedComp, NamedJoint, NamedNet, NamedDesign}
use Rattle.eco_issued_laws.specs.Changes.{is_no_component, statements}
use Rattle.eco_net.specs.Netlist.{Name, Kind, Netlist}
use Rattle.eco_net.specs.Listing.{Listing, netlist}
use Rattle.eco_elaborate.specs.declared.fault.DesignFault.{DesignFault}
use Rattle.eco_elaborate.specs.declared.fault.DesignFault.TheVariants.{UnknownMacro, UnknownPin, PinNetDiffers, SupplyDiffers, Memory}
use Rattle.eco_elaborate.specs.Netlists.{Kinds, Powers, kind_pins, netlist_of}
use Rattle.eco_elaborate.specs.Described.{IsOn, IsSupply, IsConsistent}
use Rattle.eco_elaborate.specs.Stated.{supply_among}
use Rattle.eco_elaborate.specs.Stages.{keeps_value}

-- a component of the design has this name, its macro is known, and the macro has the pin
pub record IsPinOf (kinds : Kinds) (d : NamedDesign) (comp pin : Name) : Type 0 where
  pub of : NamedComp
  pub kind : Kind
  pub found : Contains d.comps of
  pub same : of.name ≡ comp
  pub known : kinds.kind of.model ≡ Some kind
  pub has : Contains (kind_pins kind) pin

-- a component of the design has this name, and its macro has the pin as a supply pin
pub record IsSupplyPinOf (powers : Powers) (d : NamedDesign) (comp pin : Name) : Type 0 where
  pub of : NamedComp
  pub found : Contains d.comps of
  pub same : of.name ≡ comp
  pub supply : powers of.model pin ≡ true

-- Each component's macro is known, and each joint that doesn't have PIN or * in the component's place is of a pin of a component,
-- or of one of its supply pins. No pin stands on two nets, supply pins aside, and no net is a supply of two values. So the
-- design has one netlist, and this is it, but for tie nets.
pub record IsListed (kinds : Kinds) (powers : Powers) (d : NamedDesign) (N : Netlist) : Type 0 where
  pub models : (c : NamedComp) → Contains d.comps c → (k : Kind) × (kinds.kind c.model ≡ Some k)
  pub joints : (s : NamedNet) (j : NamedJoint) → Contains (statements d) s → Contains s.joints j → is_no_component j.comp ≡ false → IsPinOf kinds d j.comp j.pin ⊎ IsSupplyPinOf powers d j.comp j.pin
  pub one_net : (c p n m : Name) → IsPinOf kinds d c p → IsOn d c p n → IsOn d c p m → n ≡ m
  pub consistent : IsConsistent kinds d
  pub netlist : N ≡ netlist_of kinds [] d

-- ---- why there is none

abbrev pub HasUnknownMacro : Kinds → NamedDesign → Type 0
HasUnknownMacro kinds d = (c : NamedComp) × Contains d.comps c × (kinds.kind c.model ≡ None)

-- a joint is neither of a pin of a component nor of one of its supply pins
abbrev pub HasUnknownPin : Kinds → Powers → NamedDesign → Type 0
HasUnknownPin kinds powers d =
    (s : NamedNet) × (j : NamedJoint) × Contains (statements d) s × Contains s.joints j × (is_no_component j.comp ≡ false) × (IsPinOf kinds d j.comp j.pin → ⊥) × (IsSupplyPinOf powers d j.comp j.pin → ⊥)

-- a pin that isn't a supply pin stands on two nets
abbrev pub HasPinOnTwo : Kinds → NamedDesign → Type 0
HasPinOnTwo kinds d = (c : Name) × (p : Name) × (n : Name) × (m : Name) × IsPinOf kinds d c p × IsOn d c p n × IsOn d c p m × (n ≢ m)

abbrev pub HasTwoValues : NamedDesign → Type 0
HasTwoValues d = (n : Name) × IsSupply d n true × IsSupply d n false

-- the net of the first of these statements that gives its net another value as a supply than an earlier one
abbrev pub first_two_valued : List NamedNet → Option Name
first_two_valued ss = option_map (λ s. s.name) (find (λ s. not (keeps_value (supply_among ss) s)) ss)

-- the reason that a fault stands for
abbrev pub IsFault : Kinds → Powers → NamedDesign → DesignFault → Type 0
IsFault kinds powers d UnknownMacro = HasUnknownMacro kinds d
IsFault kinds powers d UnknownPin = HasUnknownPin kinds powers d
IsFault kinds powers d PinNetDiffers = HasPinOnTwo kinds d
IsFault kinds powers d SupplyDiffers = HasTwoValues d
IsFault kinds powers d Memory = Unit {0}

-- The netlist of the design is listed, or there is a reason why it has none. Memory may run out with any design.
abbrev pub Lists : Kinds → Powers → NamedDesign → Result Listing DesignFault → Type 0
Lists kinds powers d (Ok L) = IsListed kinds powers d (netlist L)
Lists kinds powers d (Err fault) = IsFault kinds powers d fault
