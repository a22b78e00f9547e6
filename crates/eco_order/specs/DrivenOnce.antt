-- Rule 12: in the patched netlist each new net, and each net whose driving pins the order changes, has exactly one driving pin.
use Rattle.std.specs.Prelude.{◌≡◌, ℕ, true, List, ◌++◌, ◌⊎◌, Some}
use Rattle.std.specs.List.{Contains}
use Rattle.std.specs.Ordering.{is_le}
use Rattle.eco_net.specs.Netlist.{Name, name_cmp, Netlist, Pin}
use Rattle.eco_net.specs.Drivers.{HasDrivers, net_of}
use Rattle.eco_order_file.specs.Orders.{Move, Order}
use Rattle.eco_order.specs.Insert.{patched}
use Rattle.eco_order.specs.Rules.{moves_output, redriven}

-- a moved OUTPUT pin comes from the net
abbrev pub IsLeft : Netlist → Order → Name → Type 0
IsLeft N o n = (m : Move) × Contains o.moves m × (moves_output N m ≡ true) × (m.from ≡ Some n)

-- no pin is on the net
abbrev pub HasNoPin : Netlist → Name → Type 0
HasNoPin P n = (p : Pin) → net_of P p ≡ Some n → ⊥

-- Exactly one pin drives the net. One that a moved OUTPUT pin left without any pin needs no driver.
abbrev pub IsDrivenOnce : Netlist → Order → Name → Type 0
IsDrivenOnce N o n = HasDrivers (patched N o) n 1 ⊎ (IsLeft N o n × HasNoPin (patched N o) n)

-- the new nets, and those whose driving pins the order changes
abbrev pub counted_nets : Netlist → Order → List Name
counted_nets N o = o.nets ++ redriven N o

abbrev pub AreDrivenOnce : Netlist → Order → Type 0
AreDrivenOnce N o = (n : Name) → Contains (counted_nets N o) n → IsDrivenOnce N o n

-- the first of these nets, in the order of bytes, that is not, with the number of its driving pins
pub record BreaksDriving (N : Netlist) (o : Order) (n : Name) (count : ℕ) : Type 0 where
  pub counted : Contains (counted_nets N o) n
  pub breaks : IsDrivenOnce N o n → ⊥
  pub drivers : HasDrivers (patched N o) n count
  pub first : (m : Name) → Contains (counted_nets N o) m → (IsDrivenOnce N o m → ⊥) → is_le (name_cmp n m) ≡ true
