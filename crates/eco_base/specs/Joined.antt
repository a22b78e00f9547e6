-- Whether the four texts of a base, each of which can be read, fit one another: masters, joints and supplies.
use Rattle.std.specs.Prelude.{◌≡◌, ℕ, List, map, Option, Some, None, Result, Ok}
use Rattle.std.specs.Option.{option_map}
use Rattle.eco_def.specs.Named.{NamedComp, NamedDesign, names_of}
use Rattle.eco_def.specs.View.{design_in}
use Rattle.eco_lef.specs.declared.master.Master.{Master}
use Rattle.eco_net.specs.Netlist.{Name}
use Rattle.eco_net.specs.Listing.{Listing, netlist, comp_names as listed_names}
use Rattle.eco_elaborate.specs.Netlists.{Kinds, Powers}
use Rattle.eco_elaborate.specs.Stated.{named_comps, named_nets}
use Rattle.eco_elaborate.specs.Building.{IsListed, first_two_valued}
use Rattle.eco_master_faults.specs.declared.fault.MasterFault.{MasterFault}
use Rattle.eco_master_faults.specs.Tables.{Masters, kinds_of, powers_of}
use Rattle.eco_master_faults.specs.Checks.{Checks, first_unknown as first_of_unknown_master}
use Rattle.eco_master_faults.specs.Differing.{uses, IsFirstDiffering}
use Rattle.eco_pin_faults.specs.declared.faults.UnknownPin.{UnknownPin as NoPin}
use Rattle.eco_pin_faults.specs.declared.faults.TwoNets.{TwoNets}
use Rattle.eco_pin_faults.specs.declared.faults.Pattern.{Pattern}
use Rattle.eco_pin_faults.specs.Places.{places}
use Rattle.eco_pin_faults.specs.Faults.{first_unknown, first_net, first_differing, first_pattern, unknown_at, two_nets_at, pattern_at}
use Rattle.eco_base.specs.declared.fault.BaseFault.{BaseFault}
use Rattle.eco_base.specs.declared.fault.BaseFault.TheVariants.{UnknownMaster, FunctionPins, UnknownPin, PinNetDiffers, PatternOnSignal, SupplyDiffers, Memory}
use Rattle.eco_base.specs.Texts.{TextParts}

-- the design of the DEF text, by names
abbrev pub design_names : TextParts → NamedDesign
design_names t = names_of (design_in t.text t.design)

-- the names of its components, in the order of the text
abbrev pub comp_names : TextParts → List Name
comp_names t = map (λ c. c.name) (named_comps t.text t.design.comps)

abbrev pub masters_of : TextParts → Masters
masters_of t = record { library = t.library; functions = t.functions }

-- what its models stand for, and which of their pins are supply pins
abbrev pub kinds : TextParts → Kinds
kinds t = kinds_of t.library t.functions

abbrev pub powers : TextParts → Powers
powers t = powers_of t.library

-- ---- the first fault of each kind

abbrev pub ChecksMasters : TextParts → Result (Unit {0}) MasterFault → Type 0
ChecksMasters t answer = Checks (named_comps t.text t.design.comps) t.library t.functions answer

-- the first component whose master isn't in the library
abbrev pub unknown_master : TextParts → Option NamedComp
unknown_master t = first_of_unknown_master t.library (named_comps t.text t.design.comps)

abbrev pub HasUnknownMaster : TextParts → Name → Type 0
HasUnknownMaster t comp = (c : NamedComp) × (unknown_master t ≡ Some c) × (c.name ≡ comp)

-- the first used master whose pins differ from those of its functions, and the first pin that does
abbrev pub HasFunctionPins : TextParts → (master pin : Name) → Type 0
HasFunctionPins t master pin = (m : Master) × IsFirstDiffering (uses (named_comps t.text t.design.comps)) t.functions t.library m pin × (m.name ≡ master)

-- the first joint that names no pin
abbrev pub unknown_pin : TextParts → Option NoPin
unknown_pin t = option_map unknown_at (first_unknown (kinds t) (powers t) t.text t.design)

abbrev pub HasUnknownPin : TextParts → Name → ℕ → Type 0
HasUnknownPin t net place = unknown_pin t ≡ Some (record { net = net; place = place })

-- the first pin that isn't supply and stands on two nets
abbrev pub two_nets : TextParts → Option TwoNets
two_nets t = option_map (λ p. two_nets_at (first_net (places t.text t.design) p.comp p.pin) p) (first_differing (kinds t) t.text t.design)

abbrev pub HasPinOnTwoNets : TextParts → (pin first second : Name) → Type 0
HasPinOnTwoNets t pin first second = two_nets t ≡ Some (record { pin = pin; first = first; second = second })

-- the first joint of * with a pin that isn't supply
abbrev pub pattern : TextParts → Option Pattern
pattern t = option_map pattern_at (first_pattern (kinds t) t.text t.design)

abbrev pub HasPattern : TextParts → (net pin : Name) → Type 0
HasPattern t net pin = pattern t ≡ Some (record { net = net; pin = pin })

-- the first net that is a supply of two values
abbrev pub two_valued : TextParts → Option Name
two_valued t = first_two_valued (named_nets t.text t.design.nets)

abbrev pub HasTwoValues : TextParts → Name → Type 0
HasTwoValues t net = two_valued t ≡ Some net

-- ---- none of a kind

abbrev pub MastersAreKnown : TextParts → Type 0
MastersAreKnown t = unknown_master t ≡ None

-- each component's master is known, and each used gate has the pins that its functions name
abbrev pub MastersFit : TextParts → Type 0
MastersFit t = ChecksMasters t (Ok tt)

abbrev pub JointsNamePins : TextParts → Type 0
JointsNamePins t = unknown_pin t ≡ None

abbrev pub PinsHaveOneNet : TextParts → Type 0
PinsHaveOneNet t = two_nets t ≡ None

abbrev pub PatternsAreSupply : TextParts → Type 0
PatternsAreSupply t = pattern t ≡ None

abbrev pub SuppliesHaveOneValue : TextParts → Type 0
SuppliesHaveOneValue t = two_valued t ≡ None

-- Masters fit. Each joint names pins, no pin that isn't supply is on two nets or under a *, and no net is a supply of two values.
pub record AreJoined (t : TextParts) : Type 0 where
  pub masters : MastersFit t
  pub pins : JointsNamePins t
  pub nets : PinsHaveOneNet t
  pub patterns : PatternsAreSupply t
  pub supplies : SuppliesHaveOneValue t

-- the netlist of all components is listed, in their order, its tie nets aside
pub record IsJoined (t : TextParts) (L : Listing) : Type 0 where
  pub faultless : AreJoined t
  pub numbers : listed_names L ≡ comp_names t
  pub listed : IsListed (kinds t) (powers t) (design_names t) (netlist L)

-- ---- steps

-- one kind of fault alone, or out of memory
abbrev pub BlamesMasters : TextParts → BaseFault → Type 0
BlamesMasters t (UnknownMaster comp) = HasUnknownMaster t comp
BlamesMasters t (FunctionPins master pin) = MastersAreKnown t × HasFunctionPins t master pin
BlamesMasters t Memory = Unit {0}
BlamesMasters t other = ⊥

abbrev pub BlamesPin : TextParts → BaseFault → Type 0
BlamesPin t (UnknownPin net place) = HasUnknownPin t net place
BlamesPin t Memory = Unit {0}
BlamesPin t other = ⊥

abbrev pub BlamesNets : TextParts → BaseFault → Type 0
BlamesNets t (PinNetDiffers pin first second) = HasPinOnTwoNets t pin first second
BlamesNets t Memory = Unit {0}
BlamesNets t other = ⊥

abbrev pub BlamesPattern : TextParts → BaseFault → Type 0
BlamesPattern t (PatternOnSignal net pin) = HasPattern t net pin
BlamesPattern t Memory = Unit {0}
BlamesPattern t other = ⊥

abbrev pub BlamesSupply : TextParts → BaseFault → Type 0
BlamesSupply t (SupplyDiffers net) = HasTwoValues t net
BlamesSupply t Memory = Unit {0}
BlamesSupply t other = ⊥

-- this net is a supply of two values, or memory ran out
abbrev pub IsSupplyFault : Name → BaseFault → Type 0
IsSupplyFault n (SupplyDiffers net) = net ≡ n
IsSupplyFault n Memory = Unit {0}
IsSupplyFault n other = ⊥

-- no joint and no supply is at fault, patterns aside
abbrev pub AreClean : TextParts → Type 0
AreClean t = JointsNamePins t × PinsHaveOneNet t × SuppliesHaveOneValue t

-- the netlist of texts whose joints and supplies are clean
pub record ListsClean (t : TextParts) (L : Listing) : Type 0 where
  pub clean : AreClean t
  pub numbers : listed_names L ≡ comp_names t
  pub listed : IsListed (kinds t) (powers t) (design_names t) (netlist L)

-- the netlist, exactly where the joints and supplies are clean
abbrev pub ListsWhereClean : TextParts → Option Listing → Type 0
ListsWhereClean t None = AreClean t → ⊥
ListsWhereClean t (Some L) = ListsClean t L
