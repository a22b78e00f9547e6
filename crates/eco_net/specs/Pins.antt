-- What a driver is, and which pins a list is of, by the numbers that calls answer.
use Rattle.std.specs.Prelude.{List, Option, Some, None}
use Rattle.std.specs.List.{Contains}
use Rattle.std.specs.declared.cmp.Ordering.{Ordering}
use Rattle.std.specs.List.Sorted.{IsStrictlySortedBy}
use Rattle.eco_net.specs.declared.ids.PinRef.{PinRef}
use Rattle.eco_net.specs.Netlist.{Name, Pin}
use Rattle.eco_net.specs.Drivers.{IsDriver}
use Rattle.eco_net.specs.Listing.{Listing, netlist, numbered_pin, IsKnownPin}

-- the one driving pin of a net, or none where it has none or several
abbrev pub DriverIs : Listing → Name → Option PinRef → Type 0
DriverIs L n None = (q : Pin) → IsDriver (netlist L) n q → ⊥
DriverIs L n (Some p) = IsKnownPin L p × IsDriver (netlist L) n (numbered_pin L p)

abbrev pub AreKnownPins : Listing → List PinRef → Type 0
AreKnownPins L ps = (p : PinRef) → Contains ps p → IsKnownPin L p

-- the pins with a property, each once and in this order
pub record ArePins (L : Listing) (order : PinRef → PinRef → Ordering) (P : Pin → Type 0) (ps : List PinRef) : Type 0 where
  pub sorted : IsStrictlySortedBy order ps
  pub known : (p : PinRef) → Contains ps p → IsKnownPin L p
  pub each : (p : PinRef) → Contains ps p → P (numbered_pin L p)
  pub all : (p : PinRef) → IsKnownPin L p → P (numbered_pin L p) → Contains ps p
