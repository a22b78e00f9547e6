-- What the masters of a library are for a netlist (LEF/DEF 5.8 Language Reference, "Macro", "Macro Pin").
use Rattle.std.specs.Prelude.{Bool, false, not, ◌&&◌, List, map, Option, Some, None}
use Rattle.std.specs.List.{filter, list_any}
use Rattle.std.specs.Option.{option_map}
use Rattle.std.specs.Str.{bytes_eq}
use Rattle.eco_common.specs.declared.geometry.Dir.{Dir}
use Rattle.eco_common.specs.declared.geometry.Size.{Size}
use Rattle.eco_func.specs.Masters.{MasterTables}
use Rattle.eco_func.specs.FunctionsFile.{find_master as find_function}
use Rattle.eco_lef.specs.declared.master.Master.{Master}
use Rattle.eco_lef.specs.declared.master.MasterPin.{MasterPin}
use Rattle.eco_lef.specs.Collected.{find_master}
use Rattle.eco_lef.specs.Sizes.{size_of}
use Rattle.eco_net.specs.Netlist.{Name, Kind, Gate, Boxed}
use Rattle.eco_net.specs.Listing.{bits_of}
use Rattle.eco_elaborate.specs.Netlists.{Kinds, Powers}

-- a library and the functions of its masters
pub record Masters : Type 0 where
  pub library : List Master
  pub functions : List MasterTables

-- a master's pins that are in a netlist, each with its direction: all but supply pins, in the library's order
abbrev pub signal_pins : Master → List MasterPin
signal_pins m = filter (λ p. not p.supply) m.pins

abbrev pub library_pins : Master → List (Name × Dir)
library_pins m = map (λ p. (p.name, p.dir)) (signal_pins m)

-- A master that the functions file names is a gate with the tables that it has there. Every other master is a box.
abbrev pub kind_by : Option MasterTables → Master → Kind
kind_by (Some t) m = Gate t.inputs (map (λ o. (o.pin, bits_of o.table)) t.outputs)
kind_by None m = Boxed (library_pins m)

abbrev pub kind_in : List MasterTables → Master → Kind
kind_in functions m = kind_by (find_function m.name functions) m

-- a master's size, and 0 by 0 where there is none
abbrev pub macro_size : Option Master → Size
macro_size None = record { width = 0; height = 0 }
macro_size (Some m) = size_of m

-- what the names of a library's masters stand for
abbrev pub kinds_of : List Master → List MasterTables → Kinds
kinds_of library functions = record {
  kind = λ name. option_map (kind_in functions) (find_master name library);
  size = λ name. macro_size (find_master name library);
}

abbrev pub has_supply : Option Master → Name → Bool
has_supply None pin = false
has_supply (Some m) pin = list_any (λ p. p.supply && bytes_eq p.name pin) m.pins

-- whether the master of a name has a supply pin of a name
abbrev pub powers_of : List Master → Powers
powers_of library model pin = has_supply (find_master model library) pin
