-- The depth of a netlist's gates: how many stand one after another.
use Rattle.std.specs.Prelude.{◌≡◌, ℕ, zero, suc, ◌<◌, Bool, List, Option, Some, ◌⊎◌}
use Rattle.std.specs.List.{Contains}
use Rattle.std.specs.FinMap.{get}
use Rattle.eco_net.specs.Netlist.{Name, Netlist, Component, Gate, input_nets}
use Rattle.eco_net.specs.Drivers.{Computed}

-- c is a gate
pub record IsGate (N : Netlist) (c : Name) : Type 0 where
  pub gate : Component
  pub inputs : List Name
  pub outputs : List (Name × List Bool)
  pub is : get N.comps c ≡ Some gate
  pub kind : gate.kind ≡ Gate inputs outputs

-- the gate d drives a computed net that the gate c reads
pub record Feeds (N : Netlist) (d c : Name) : Type 0 where
  pub gate : Component
  pub is : get N.comps c ≡ Some gate
  pub net : Name
  pub reads : Contains (input_nets gate) (Some net)
  pub table : List Bool
  pub inputs : List (Option Name)
  pub computed : Computed N net table inputs
  pub by : computed.comp ≡ d

-- a chain of k more gates before the gate c, each feeding the next
abbrev pub Behind : Netlist → Name → ℕ → Type 0
Behind N c zero = Unit {0}
Behind N c (suc k) = (d : Name) × Feeds N d c × Behind N d k

-- A gate's depth is the number of gates in the longest chain that ends with it. d is the greatest depth of a gate, and 0
-- where there is none.
pub record IsDepth (N : Netlist) (d : ℕ) : Type 0 where
  pub reached : (d ≡ 0) ⊎ ((c : Name) × IsGate N c × (k : ℕ) × (d ≡ suc k) × Behind N c k)
  pub greatest : (c : Name) (k : ℕ) → IsGate N c → Behind N c k → k < d
