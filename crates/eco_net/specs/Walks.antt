-- Walks along computed nets, and loops.
use Rattle.std.specs.Prelude.{◌≡◌, ℕ, zero, suc, Bool, List, [], ◌∷◌, Option, Some}
use Rattle.std.specs.List.{Contains, IsDistinct}
use Rattle.std.specs.Ordering.{eq_by_cmp}
use Rattle.std.specs.declared.cmp.Ordering.TheVariants.{Less}
use Rattle.eco_net.specs.Netlist.{Name, name_cmp, Netlist}
use Rattle.eco_net.specs.Drivers.{IsComputed, Computed}

-- the gate that drives b reads a, and both are computed
pub record ReadsNet (N : Netlist) (a b : Name) : Type 0 where
  pub from : IsComputed N a
  pub table : List Bool
  pub inputs : List (Option Name)
  pub to : Computed N b table inputs
  pub reads : Contains inputs (Some a)

-- a walk of k steps, each net read by the driver of the next
abbrev pub NetWalk : Netlist → Name → Name → ℕ → Type 0
NetWalk N a b zero = a ≡ b
NetWalk N a b (suc k) = (c : Name) × NetWalk N a c k × ReadsNet N c b

-- no closed walk of computed nets
abbrev pub IsLoopFree : Netlist → Type 0
IsLoopFree N = (a : Name) (k : ℕ) → NetWalk N a a (suc k) → ⊥

-- from a through these nets to b, each read by the driver of the next
abbrev pub Onward : Netlist → Name → List Name → Name → Type 0
Onward N a [] b = ReadsNet N a b
Onward N a (c ∷ cs) b = ReadsNet N a c × Onward N c cs b

-- a closed walk as it is reported: each net once and read by the driver of the next, the last by that of the first, which
-- is the least by bytes
abbrev pub IsClosedWalk : Netlist → List Name → Type 0
IsClosedWalk N [] = ⊥
IsClosedWalk N (n ∷ ns) = Onward N n ns n × ((m : Name) → Contains ns m → name_cmp n m ≡ Less) × IsDistinct (eq_by_cmp name_cmp) ns
