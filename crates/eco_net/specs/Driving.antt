-- Which driving pins of each net are among some pins: none, one or several.
use Rattle.std.specs.Prelude.{List, [], ◌∷◌, ◌++◌, ℕ, map, take, length}
use Rattle.std.specs.List.{filter, range_with_len}
use Rattle.eco_net.specs.declared.ids.PinRef.{PinRef}
use Rattle.eco_net.specs.declared.drivers.Driving.{Driving}
use Rattle.eco_net.specs.declared.drivers.Driving.TheVariants.{None, One, Several}
use Rattle.eco_net.specs.Listing.{Listing}
use Rattle.eco_net.specs.ByNumber.{drives, is_on, tops_to, comp_pins}

-- what is noted of these driving pins
abbrev pub driving_of : List PinRef → Driving
driving_of [] = None
driving_of (p ∷ []) = One p
driving_of (p ∷ q ∷ ps) = Several

-- what is noted of those among these pins that drive a net
abbrev pub driving_at : Listing → List PinRef → ℕ → Driving
driving_at L ps n = driving_of (filter (drives L) (filter (is_on L n) ps))

abbrev pub each_driving : Listing → List PinRef → List Driving
each_driving L ps = map (driving_at L ps) (range_with_len 0 (length L.nets))

-- the pins that stand before those of a component
abbrev pub pins_before : Listing → ℕ → List PinRef
pins_before L c = tops_to (length L.tops) ++ comp_pins 0 (take c L.comps)
