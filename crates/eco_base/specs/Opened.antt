-- What opening a base answers: the base of four texts, or the first of thirteen faults.
use Rattle.std.specs.Prelude.{◌≡◌, ◌⊎◌, ℕ, ◌<◌, ◌≤◌, true, false, List, length, Result, Ok, Err}
use Rattle.eco_common.specs.declared.limits.TheConstants.{MAX_STOCK}
use Rattle.eco_net.specs.Netlist.{Name}
use Rattle.eco_net.specs.Walks.{IsClosedWalk}
use Rattle.eco_net.specs.Bases.{bare}
use Rattle.eco_base.specs.declared.fault.BaseFault.{BaseFault}
use Rattle.eco_base.specs.declared.fault.BaseFault.TheVariants.{Lef, Def, Func, Desk, UnknownMaster, FunctionPins, UnknownPin, PinNetDiffers, PatternOnSignal, SupplyDiffers, TieNotConstant, TooMuchStock, Loop, Memory}
use Rattle.eco_base.specs.Digests.{digest_of}
use Rattle.eco_base.specs.Texts.{TextParts, IsReadFrom}
use Rattle.eco_base.specs.TextFaults.{HasLefFault, HasDefFault, HasFuncFault, HasDeskFault, HasLibrary, HasDesign, HasFunctions}
use Rattle.eco_base.specs.Joined.{HasUnknownMaster, HasFunctionPins, HasUnknownPin, HasPinOnTwoNets, HasPattern, HasTwoValues, MastersAreKnown, MastersFit, JointsNamePins, PinsHaveOneNet, PatternsAreSupply, AreJoined}
use Rattle.eco_base.specs.Bases.{BaseParts, IsTied, stock_names, frozen, IsOpen}

-- ---- tie nets, stock and loops

-- the first tie net that isn't one, that of tie_high first
abbrev pub IsUntied : TextParts → Name → Type 0
IsUntied t net = ((IsTied t true → ⊥) × (net ≡ t.desk.high)) ⊎ (IsTied t true × (IsTied t false → ⊥) × (net ≡ t.desk.low))

abbrev pub AreTied : TextParts → Type 0
AreTied t = IsTied t true × IsTied t false

abbrev pub HasFewSpares : TextParts → Type 0
HasFewSpares t = length (stock_names t) ≤ MAX_STOCK

abbrev pub HasTooMuchStock : TextParts → ℕ → Type 0
HasTooMuchStock t count = (count ≡ length (stock_names t)) × (MAX_STOCK < count)

-- a signal runs through these nets and back to the first, past gates that aren't in the stock
abbrev pub HasLoop : TextParts → List Name → Type 0
HasLoop t nets = IsClosedWalk (bare (frozen t)) nets

-- ---- all faults

-- the four texts can be read, and what they say has P
abbrev pub Say : (lef def functions desk : List ℕ) → (TextParts → Type 0) → Type 0
Say lef def functions desk P = (t : TextParts) × IsReadFrom lef def functions desk t × P t

-- The first fault of the texts: what holds before it, and last its own cause. Out of memory may be returned for any texts.
abbrev pub IsFirstFault : (lef def functions desk : List ℕ) → BaseFault → Type 0
IsFirstFault lef def functions desk (Lef fault) = HasLefFault lef fault
IsFirstFault lef def functions desk (Def fault) = HasLibrary lef × HasDefFault def fault
IsFirstFault lef def functions desk (Func fault) = HasLibrary lef × HasDesign def × HasFuncFault functions fault
IsFirstFault lef def functions desk (Desk field) = HasLibrary lef × HasDesign def × HasFunctions functions × HasDeskFault desk field
IsFirstFault lef def functions desk (UnknownMaster comp) = Say lef def functions desk (λ t. HasUnknownMaster t comp)
IsFirstFault lef def functions desk (FunctionPins master pin) = Say lef def functions desk (λ t. MastersAreKnown t × HasFunctionPins t master pin)
IsFirstFault lef def functions desk (UnknownPin net place) = Say lef def functions desk (λ t. MastersFit t × HasUnknownPin t net place)
IsFirstFault lef def functions desk (PinNetDiffers pin first second) = Say lef def functions desk (λ t. MastersFit t × JointsNamePins t × HasPinOnTwoNets t pin first second)
IsFirstFault lef def functions desk (PatternOnSignal net pin) = Say lef def functions desk (λ t. MastersFit t × JointsNamePins t × PinsHaveOneNet t × HasPattern t net pin)
IsFirstFault lef def functions desk (SupplyDiffers net) = Say lef def functions desk (λ t. MastersFit t × JointsNamePins t × PinsHaveOneNet t × PatternsAreSupply t × HasTwoValues t net)
IsFirstFault lef def functions desk (TieNotConstant net) = Say lef def functions desk (λ t. AreJoined t × IsUntied t net)
IsFirstFault lef def functions desk (TooMuchStock count) = Say lef def functions desk (λ t. AreJoined t × AreTied t × HasTooMuchStock t count)
IsFirstFault lef def functions desk (Loop nets) = Say lef def functions desk (λ t. AreJoined t × AreTied t × HasFewSpares t × HasLoop t nets)
IsFirstFault lef def functions desk Memory = Unit {0}

-- the first fault of any texts that say these parts
abbrev pub IsFirstOf : TextParts → BaseFault → Type 0
IsFirstOf t fault = (lef def functions desk : List ℕ) → IsReadFrom lef def functions desk t → IsFirstFault lef def functions desk fault

-- ---- the base

-- the base of these texts
pub record IsOpened (lef def functions desk : List ℕ) (b : BaseParts) : Type 0 where
  pub read : IsReadFrom lef def functions desk b.texts
  pub digest : b.digest ≡ digest_of lef def functions desk
  pub base : IsOpen b

-- the base, or the first fault
abbrev pub Opens : List ℕ → List ℕ → List ℕ → List ℕ → Result BaseParts BaseFault → Type 0
Opens lef def functions desk (Ok b) = IsOpened lef def functions desk b
Opens lef def functions desk (Err fault) = IsFirstFault lef def functions desk fault
