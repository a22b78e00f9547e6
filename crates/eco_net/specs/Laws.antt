-- What holds of each netlist.
use Rattle.std.specs.Prelude.{◌≡◌, ℕ, ◌<◌, Bool, List, ◌⊎◌, Some}
use Rattle.std.specs.FinMap.{get}
use Rattle.eco_net.specs.Netlist.{Name, Netlist, IsNet}
use Rattle.eco_net.specs.Drivers.{IsComputed, IsFree}
use Rattle.eco_net.specs.CutKeys.{CutKey, CutBits, KeyOf, IsCutKey, IsChoice}
use Rattle.eco_net.specs.Valuation.{HasOneValuation}
use Rattle.eco_net.specs.Walks.{ReadsNet, IsLoopFree, IsClosedWalk}
use Rattle.eco_net.specs.Depth.{IsDepth}

-- a loop-free netlist has exactly one valuation for each choice of cut bits
abbrev pub OneValuation : Type 0
OneValuation = (N : Netlist) → IsLoopFree N → HasOneValuation N

-- each net is a supply, computed or free
abbrev pub EachNet : Type 0
EachNet = (N : Netlist) (n : Name) → IsNet N n → ((b : Bool) × (get N.nets n ≡ Some (Some b))) ⊎ (IsComputed N n ⊎ IsFree N n)

-- a free net has exactly one cut key
abbrev pub OneCutKey : Type 0
OneCutKey = (N : Netlist) (n : Name) → IsFree N n → (key : CutKey) × KeyOf N n key × ((other : CutKey) → KeyOf N n other → other ≡ key)

-- the cut keys are finite, and each of them may have either bit
abbrev pub EachChoice : Type 0
EachChoice = (N : Netlist) (bits : CutKey → Bool) → (cut : CutBits) × IsChoice N cut × ((key : CutKey) → IsCutKey N key → get cut key ≡ Some (bits key))

-- ranks that rise from each computed net to those that are read from it show that there is no loop
abbrev pub RanksShow : Type 0
RanksShow = (N : Netlist) (rank : Name → ℕ) → ((a b : Name) → ReadsNet N a b → rank a < rank b) → IsLoopFree N

-- a reported walk shows that there is one
abbrev pub WalkShows : Type 0
WalkShows = (N : Netlist) (nets : List Name) → IsClosedWalk N nets → IsLoopFree N → ⊥

-- a netlist has at most one depth
abbrev pub OneDepth : Type 0
OneDepth = (N : Netlist) (d e : ℕ) → IsDepth N d → IsDepth N e → d ≡ e
