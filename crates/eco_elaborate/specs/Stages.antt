-- What each stage of listing a design adds to the netlist.
use mathlib.Core.Bool.{beq}
use Rattle.std.specs.Prelude.{◌≡◌, ◌≢◌, ◌⊎◌, ℕ, ◌+◌, ◌<◌, ◌≤◌, Bool, true, false, ◌&&◌, cond, ◌↔◌, is_some, List, [], ◌∷◌, ◌++◌, length, map, Option, Some, None, slice_get}
use Rattle.std.specs.List.{Contains, list_any, filter}
use Rattle.std.specs.Option.{option_map, unwrap_or}
use Rattle.std.specs.Str.{bytes_eq}
use Rattle.std.specs.Borrow.{Bor}
use Rattle.std.specs.FinMap.{get, empty}
use Rattle.std.specs.FinSet as set
use Rattle.std.specs.HashMap.{HashMap, get_by}
use Rattle.std.specs.declared.hash.FoldHasher.{FoldHasher}
use Rattle.std.specs.declared.hash.BuildHasherDefault.{BuildHasherDefault}
use Rattle.eco_def.specs.declared.design.Design.{Design}
use Rattle.eco_def.specs.Named.{NamedComp, NamedPin, NamedNet}
use Rattle.eco_common.specs.Joints.{NewJoint}
use Rattle.eco_net.specs.declared.kind.Kind.{Kind as Given}
use Rattle.eco_net.specs.declared.rows.CompRow.{CompRow}
use Rattle.eco_net.specs.declared.rows.NetRow.{NetRow}
use Rattle.eco_net.specs.declared.ids.CompId.{CompId}
use Rattle.eco_net.specs.declared.ids.PinRef.TheVariants.{Pin}
use Rattle.eco_net.specs.Netlist.{Name, Component, Top, Netlist, CompPin, IsPin, role_of}
use Rattle.eco_net.specs.Changes.{empty_netlist}
use Rattle.eco_net.specs.Drivers.{net_of}
use Rattle.eco_net.specs.Listing.{Listing, netlist, net_name, comp_names, pins, IsKnownPin}
use Rattle.eco_elaborate.specs.declared.fault.DesignFault.{DesignFault}
use Rattle.eco_elaborate.specs.declared.fault.DesignFault.TheVariants.{UnknownMacro, UnknownPin, PinNetDiffers, SupplyDiffers, Memory}
use Rattle.eco_elaborate.specs.declared.joined_pin.JoinedPin.{JoinedPin}
use Rattle.eco_elaborate.specs.declared.stated_joint.StatedJoint.{StatedJoint}
use Rattle.eco_elaborate.specs.Netlists.{Kinds, Powers, centre_in, supply_by, top_of}
use Rattle.eco_net.specs.Joints.{IsRewired, OneNetEach}
use Rattle.eco_text.specs.Cursor.{word_bytes}
use Rattle.eco_elaborate.specs.Stated.{named_net, named_pin, named_comps, named_pins}

-- ---- supplies

-- the value of a net by a map of supplies
abbrev pub supply_value : HashMap (Bor (List ℕ)) Bool (BuildHasherDefault FoldHasher) → Name → Option Bool
supply_value values n = get_by (λ k. bytes_eq n k.now) values

-- the first of two values is none, or the second says no other
abbrev pub agree : Option Bool → Option Bool → Bool
agree (Some a) (Some b) = beq a b
agree a b = true

-- a statement gives its net no other value than it has
abbrev pub keeps_value : (Name → Option Bool) → NamedNet → Bool
keeps_value value s = agree (supply_by s.usage) (value s.name)

-- ---- nets

-- the nets are those of these names, each a supply of its value
abbrev pub NetsAre : (Name → Option Bool) → List Name → Netlist → Type 0
NetsAre value names N = (n : Name) → get N.nets n ≡ cond (list_any (λ m. bytes_eq m n) names) (Some (value n)) None

-- nets of these names are added, each once and only where it isn't there
pub record AddsNets (value : Name → Option Bool) (names : List Name) (L M : Listing) : Type 0 where
  pub nets : (before : List Name) → NetsAre value before (netlist L) → NetsAre value (before ++ names) (netlist M)
  pub others : netlist M ≡ record (netlist L) { nets = (netlist M).nets }
  pub rows : M ≡ record L { nets = M.nets }
  pub few : length M.nets ≤ length L.nets + length names

-- ---- components

-- the component by its macro and its doubled centre, with its pins unconnected
pub record IsOffNets (kinds : Kinds) (units : ℕ) (c : NamedComp) (x : Component) : Type 0 where
  pub kind : kinds.kind c.model ≡ Some x.kind
  pub place : x.place ≡ centre_in kinds units c
  pub joined : x.joined ≡ empty

-- the components are these, with their pins unconnected
pub record CompsAre (kinds : Kinds) (units : ℕ) (cs : List NamedComp) (N : Netlist) : Type 0 where
  pub each : (c : NamedComp) → Contains cs c → (x : Component) × (get N.comps c.name ≡ Some x) × IsOffNets kinds units c x
  pub only : (n : Name) (x : Component) → get N.comps n ≡ Some x → (c : NamedComp) × Contains cs c × (c.name ≡ n) × IsOffNets kinds units c x

-- these components are added, with their pins unconnected
pub record AddsComps (kinds : Kinds) (units : ℕ) (cs : List NamedComp) (L M : Listing) : Type 0 where
  pub comps : (before : List NamedComp) → CompsAre kinds units before (netlist L) → CompsAre kinds units (before ++ cs) (netlist M)
  pub others : netlist M ≡ record (netlist L) { comps = (netlist M).comps }
  pub rows : M ≡ record L { comps = M.comps }
  pub names : comp_names M ≡ comp_names L ++ map (λ c. c.name) cs
  pub count : length M.comps ≡ length L.comps + length cs

-- a component's macro isn't known, or memory ran out
abbrev pub MacroFault : Kinds → List NamedComp → DesignFault → Type 0
MacroFault kinds cs UnknownMacro = (c : NamedComp) × Contains cs c × (kinds.kind c.model ≡ None)
MacroFault kinds cs UnknownPin = ⊥
MacroFault kinds cs PinNetDiffers = ⊥
MacroFault kinds cs SupplyDiffers = ⊥
MacroFault kinds cs Memory = Unit {0}

-- ---- top pins

-- the top pins are those of these that aren't supply
abbrev pub TopsAre : List NamedPin → Netlist → Type 0
TopsAre ps N = (t : Name) (x : Top) → (get N.tops t ≡ Some x) ↔ ((p : NamedPin) × Contains ps p × (p.supply ≡ false) × (p.name ≡ t) × (top_of p ≡ x))

-- those of these top pins that aren't supply are added
pub record AddsTops (ps : List NamedPin) (L M : Listing) : Type 0 where
  pub tops : (before : List NamedPin) → TopsAre before (netlist L) → TopsAre (before ++ ps) (netlist M)
  pub others : netlist M ≡ record (netlist L) { tops = (netlist M).tops }
  pub rows : M ≡ record L { tops = M.tops }
  pub few : length M.tops ≤ length L.tops + length ps

-- ---- pins on nets

abbrev pub row_name : Option CompRow → Name
row_name None = []
row_name (Some r) = r.name

abbrev pub pin_name : Option CompRow → ℕ → Name
pin_name None k = []
pin_name (Some r) k = unwrap_or (option_map (λ p. p.0) (slice_get (pins r) k)) []

-- the pin and its net, by names
abbrev pub joint_of : Listing → JoinedPin → NewJoint
joint_of L p = record { comp = row_name (slice_get L.comps p.comp.0); pin = pin_name (slice_get L.comps p.comp.0) p.pin; net = net_name L.nets p.net.0 }

abbrev pub joints_of : Listing → List JoinedPin → List NewJoint
joints_of L ps = map (joint_of L) ps

-- pin and net are those of a listing
abbrev pub IsKnownJoint : Listing → JoinedPin → Type 0
IsKnownJoint L p = IsKnownPin L (Pin p.comp p.pin) × (p.net.0 < length L.nets)

-- the pin of these names: its component and its number
abbrev pub FindsPinOf : Listing → Name → Name → Option (CompId × ℕ) → Type 0
FindsPinOf L comp pin None = (x : Component) → get (netlist L).comps comp ≡ Some x → IsPin x pin → ⊥
FindsPinOf L comp pin (Some f) = IsKnownPin L (Pin f.0 f.1) × (row_name (slice_get L.comps f.0.0) ≡ comp) × (pin_name (slice_get L.comps f.0.0) f.1 ≡ pin)

-- one of these components has the name, and its macro has the pin as a supply pin
abbrev pub has_supply_pin : Powers → List NamedComp → Name → Name → Bool
has_supply_pin powers cs comp pin = list_any (λ c. bytes_eq c.name comp && powers c.model pin) cs

-- the pin that a joint names, or none, and then it is a supply pin
abbrev pub FindsJoint : (Name → Name → Bool) → Listing → Name → Name → Option (CompId × ℕ) → Type 0
FindsJoint powered L comp pin None = FindsPinOf L comp pin None × (powered comp pin ≡ true)
FindsJoint powered L comp pin (Some f) = FindsPinOf L comp pin (Some f)

-- a joint names no pin of a component, and no supply pin
pub record IsUnknownJoint (powered : Name → Name → Bool) (N : Netlist) (comp pin : Name) : Type 0 where
  pub no_pin : (x : Component) → get N.comps comp ≡ Some x → IsPin x pin → ⊥
  pub no_supply : powered comp pin ≡ false

-- whether the component of a name has the pin
abbrev pub has_pin : Option Component → Name → Bool
has_pin None p = false
has_pin (Some x) p = is_some (role_of x p)

-- those of these pins that components of the netlist have: supply pins are passed over
abbrev pub known_pins : Netlist → List NewJoint → List NewJoint
known_pins N js = filter (λ j. has_pin (get N.comps j.comp) j.pin) js

-- pins are found, by these names
pub record FindsPins (powered : Name → Name → Bool) (L : Listing) (js : List NewJoint) (old new : List JoinedPin) : Type 0 where
  pub joints : joints_of L new ≡ joints_of L old ++ known_pins (netlist L) js
  pub known : ((p : JoinedPin) → Contains old p → IsKnownJoint L p) → (p : JoinedPin) → Contains new p → IsKnownJoint L p
  pub each : (j : NewJoint) → Contains js j → (has_pin (get (netlist L).comps j.comp) j.pin ≡ true) ⊎ (powered j.comp j.pin ≡ true)

-- joints by their words, and by the numbers of their nets
abbrev pub stated_joint : List ℕ → List NetRow → StatedJoint → NewJoint
stated_joint text nets s = record { comp = word_bytes text s.comp; pin = word_bytes text s.pin; net = net_name nets s.net.0 }

abbrev pub stated_joints : List ℕ → List NetRow → List StatedJoint → List NewJoint
stated_joints text nets ss = map (stated_joint text nets) ss

-- pins of some of these joints are found, and the others, which are the last ones, wait
pub record FindsOrWaits (powered : Name → Name → Bool) (text : List ℕ) (L : Listing) (js : List NewJoint) (found : List JoinedPin) (waiting : List StatedJoint) : Type 0 where
  pub done : List NewJoint
  pub finds : FindsPins powered L done [] found
  pub all : js ≡ done ++ stated_joints text L.nets waiting
  pub nets : (s : StatedJoint) → Contains waiting s → s.net.0 < length L.nets

-- a joint names no pin of a component, nor a supply pin, or memory ran out
abbrev pub PinFault : (Name → Name → Bool) → Netlist → List NewJoint → DesignFault → Type 0
PinFault powered N js UnknownMacro = ⊥
PinFault powered N js UnknownPin = (j : NewJoint) × Contains js j × IsUnknownJoint powered N j.comp j.pin
PinFault powered N js PinNetDiffers = ⊥
PinFault powered N js SupplyDiffers = ⊥
PinFault powered N js Memory = Unit {0}

abbrev pub name_and_kind : CompRow → Name × Given
name_and_kind r = (r.name, r.kind)

-- each number stands for the same name, and for a component of the same kind
pub record SameNumbers (L M : Listing) : Type 0 where
  pub nets : M.nets ≡ L.nets
  pub comps : (c : ℕ) → option_map name_and_kind (slice_get M.comps c) ≡ option_map name_and_kind (slice_get L.comps c)

-- the net that the pin was on
abbrev pub net_before : Listing → JoinedPin → Option Name
net_before L p = net_of (netlist L) (CompPin (joint_of L p).comp (joint_of L p).pin)

-- the pin is put on its net; before, it was on none or on that one
pub record JoinsPin (L : Listing) (p : JoinedPin) (M : Listing) : Type 0 where
  pub wired : IsRewired (netlist L) (joint_of L p ∷ []) [] (netlist M)
  pub before : (net_before L p ≡ None) ⊎ (net_before L p ≡ Some (joint_of L p).net)
  pub same : SameNumbers L M

-- the pins are put on their nets, none of them on two
pub record JoinsPins (L : Listing) (ps : List JoinedPin) (M : Listing) : Type 0 where
  pub wired : IsRewired (netlist L) (joints_of L ps) [] (netlist M)
  pub one : OneNetEach (joints_of L ps)
  pub same : SameNumbers L M

-- the pin is on another net
abbrev pub OneFault : Listing → JoinedPin → DesignFault → Type 0
OneFault L p UnknownMacro = ⊥
OneFault L p UnknownPin = ⊥
OneFault L p PinNetDiffers = (n : Name) × (net_before L p ≡ Some n) × (n ≢ (joint_of L p).net)
OneFault L p SupplyDiffers = ⊥
OneFault L p Memory = Unit {0}

-- a pin is put on two nets, or memory ran out
abbrev pub JoinFault : List NewJoint → DesignFault → Type 0
JoinFault js UnknownMacro = ⊥
JoinFault js UnknownPin = ⊥
JoinFault js PinNetDiffers = (j : NewJoint) × (k : NewJoint) × Contains js j × Contains js k × (j.comp ≡ k.comp) × (j.pin ≡ k.pin) × (j.net ≢ k.net)
JoinFault js SupplyDiffers = ⊥
JoinFault js Memory = Unit {0}

-- ---- a whole design

-- the names of the nets, of statements in the order of the text and of the design's own pins
abbrev pub design_net_names : List ℕ → Design → List Name
design_net_names text d = map (λ s. (named_net text s).name) d.nets ++ map (λ p. (named_pin text p).net) d.pins

-- the nets are listed, and nothing else
pub record NetsListed (value : Name → Option Bool) (text : List ℕ) (d : Design) (L : Listing) : Type 0 where
  pub nets : NetsAre value (design_net_names text d) (netlist L)
  pub others : netlist L ≡ record empty_netlist { nets = (netlist L).nets }
  pub no_comps : L.comps ≡ []
  pub no_tops : L.tops ≡ []

-- all is listed, with the components' pins unconnected
pub record PartsListed (kinds : Kinds) (value : Name → Option Bool) (text : List ℕ) (d : Design) (L : Listing) : Type 0 where
  pub nets : NetsAre value (design_net_names text d) (netlist L)
  pub comps : CompsAre kinds d.units (named_comps text d.comps) (netlist L)
  pub numbers : comp_names L ≡ map (λ c. c.name) (named_comps text d.comps)
  pub tops : TopsAre (named_pins text d.pins) (netlist L)
  pub ties : (netlist L).ties ≡ set.empty
  pub reserved : (netlist L).reserved ≡ set.empty
