-- Orders of pins by number.
use Rattle.std.specs.Prelude.{ℕ, List, [], ◌∷◌, Option, Some, None, slice_get}
use Rattle.std.specs.declared.cmp.Ordering.{Ordering}
use Rattle.std.specs.Ordering.{on, nat_cmp}
use Rattle.std.specs.Cmp.Lexicographic.{slice_cmp}
use Rattle.eco_net.specs.declared.ids.PinRef.{PinRef}
use Rattle.eco_net.specs.declared.ids.PinRef.TheVariants.{Top, Pin}
use Rattle.eco_net.specs.Netlist.{Role, GateInput, GateOutput, BoxedPin}
use Rattle.eco_net.specs.Listing.{Listing}
use Rattle.eco_net.specs.ByNumber.{role_at}

abbrev pub pin_number : PinRef → List ℕ
pin_number (Top t) = 0 ∷ t.0 ∷ []
pin_number (Pin c k) = 1 ∷ c.0 ∷ k ∷ []

-- top pins first, then by component and pin
abbrev pub pin_order : PinRef → PinRef → Ordering
pin_order = on pin_number (slice_cmp nat_cmp)

-- a gate's output is of the third kind
abbrev pub kind_number : Option Role → ℕ
kind_number None = 1
kind_number (Some GateInput) = 1
kind_number (Some (GateOutput t)) = 2
kind_number (Some (BoxedPin d)) = 1

abbrev pub observed_number : Listing → PinRef → List ℕ
observed_number L (Top t) = 0 ∷ t.0 ∷ []
observed_number L (Pin c k) = kind_number (role_at (slice_get L.comps c.0) k) ∷ c.0 ∷ k ∷ []

-- top pins first, then pins of boxes, then outputs of gates, and within each kind by component and pin
abbrev pub observed_order : Listing → PinRef → PinRef → Ordering
observed_order L = on (observed_number L) (slice_cmp nat_cmp)
