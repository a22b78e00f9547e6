-- How the kinds of a library's masters are made.
use Rattle.std.specs.Prelude.{◌≡◌, not, List, map, Option}
use Rattle.std.specs.List.{filter, All}
use Rattle.eco_func.specs.Masters.{MasterTables}
use Rattle.eco_lef.specs.declared.master.Master.{Master}
use Rattle.eco_lef.specs.declared.master.MasterPin.{MasterPin}
use Rattle.eco_net.specs.declared.kind.BoxPin.{BoxPin}
use Rattle.eco_net.specs.declared.kind.Kind.{Kind as Given}
use Rattle.eco_net.specs.Listing.{given_kind, HasOwnPins}
use Rattle.eco_master_faults.specs.Tables.{kind_by, kind_in}

-- a pin as a box has it
abbrev pub box_pin : MasterPin → BoxPin
box_pin p = record { name = p.name; dir = p.dir }

-- a master's pins as those of a box
abbrev pub boxed : List MasterPin → List BoxPin
boxed ps = map box_pin (filter (λ p. not p.supply) ps)

-- what a master is, by the tables that the functions file has for it, and its pins have names of their own
abbrev pub IsKindOf : Option MasterTables → Master → Given → Type 0
IsKindOf tables m kind = (given_kind kind ≡ kind_by tables m) × HasOwnPins kind

-- what each master of a library is, and the pins of each have names of their own
pub record AreKinds (functions : List MasterTables) (library : List Master) (kinds : List Given) : Type 0 where
  pub each : map given_kind kinds ≡ map (kind_in functions) library
  pub own : All HasOwnPins kinds
