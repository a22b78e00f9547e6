-- The tie nets of a netlist, by names.
use Rattle.std.specs.Prelude.{◌≡◌, Bool, false, cond, List, [], ◌∷◌, ◌⊎◌, Some, None}
use Rattle.std.specs.FinMap.{get}
use Rattle.eco_net.specs.Netlist.{Name, Netlist, Component, Pin, TopPin, CompPin, GateOutput, role_of, input_nets}
use Rattle.eco_net.specs.Drivers.{IsDriver}
use Rattle.eco_desk_file.specs.Desk.{Desk, is_spare_named}

-- the net that is tied to a value
abbrev pub tie_name : Desk → Bool → Name
tie_name desk b = cond b desk.high desk.low

-- an output, whose table is this value, of a gate without inputs that isn't spare-named
abbrev pub IsTieOutput : List Name → Netlist → Pin → Bool → Type 0
IsTieOutput prefixes N (TopPin t) b = ⊥
IsTieOutput prefixes N (CompPin c p) b =
    (is_spare_named prefixes c ≡ false)
    × (x : Component) × (get N.comps c ≡ Some x) × (input_nets x ≡ []) × (role_of x p ≡ Some (GateOutput (b ∷ [])))

-- A supply of this value, or a net that isn't a supply and whose one driving pin is such an output.
abbrev pub IsTieNet : List Name → Netlist → Name → Bool → Type 0
IsTieNet prefixes N n b =
    (get N.nets n ≡ Some (Some b))
    ⊎ ((get N.nets n ≡ Some None) × (p : Pin) × IsDriver N n p × IsTieOutput prefixes N p b)
