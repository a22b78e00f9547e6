-- The sinks of a net, by number.
use Rattle.std.specs.Prelude.{◌≡◌, ℕ, Bool, true, not, List, Option, Some, None}
use Rattle.std.specs.List.{filter}
use Rattle.std.specs.Ordering.{eq_by_cmp}
use Rattle.eco_net.specs.declared.ids.PinRef.{PinRef}
use Rattle.eco_net.specs.Listing.{Listing}
use Rattle.eco_net.specs.ByNumber.{pins_on, all_pins, by_net, driver_at}
use Rattle.eco_net.specs.PinOrder.{pin_order}

-- a pin that isn't the driver
abbrev pub is_other : Option PinRef → PinRef → Bool
is_other None p = true
is_other (Some d) p = not (eq_by_cmp pin_order d p)

-- lists of the pins of each net of a netlist, in the order of pins
abbrev pub ArePinLists : Listing → List (List PinRef) → Type 0
ArePinLists L lists = lists ≡ by_net L (all_pins L)

abbrev pub sinks_of : Listing → ℕ → List PinRef
sinks_of L n = filter (is_other (driver_at L n)) (pins_on L n)
