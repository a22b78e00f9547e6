-- The names of a master's pins that differ, by tests, and the least of names one after another.
use Rattle.std.specs.Prelude.{Bool, true, false, not, ◌&&◌, List, ◌++◌, map, Option}
use Rattle.std.specs.List.{list_any, filter}
use Rattle.std.specs.Str.{bytes_eq}
use Rattle.eco_common.specs.declared.geometry.Dir.{Dir}
use Rattle.eco_common.specs.declared.geometry.Dir.TheVariants.{Input, Output, Inout}
use Rattle.eco_func.specs.Masters.{MasterTables}
use Rattle.eco_lef.specs.declared.master.Master.{Master}
use Rattle.eco_lef.specs.declared.master.MasterPin.{MasterPin}
use Rattle.eco_net.specs.Among.{Has}
use Rattle.eco_net.specs.Netlist.{Name}
use Rattle.eco_master_faults.specs.Differing.{IsLeast}

abbrev pub same_dir : Dir → Dir → Bool
same_dir Input Input = true
same_dir Output Output = true
same_dir Inout Inout = true
same_dir a b = false

-- the library has a pin of this name and direction for the master
abbrev pub is_signal : Name → Dir → MasterPin → Bool
is_signal n d p = not p.supply && same_dir p.dir d && bytes_eq p.name n

abbrev pub has_pin : Master → Name → Dir → Bool
has_pin m n d = list_any (is_signal n d) m.pins

-- the functions file lists a pin of this name and direction
abbrev pub lists : MasterTables → Name → Dir → Bool
lists t n Input = list_any (bytes_eq n) t.inputs
lists t n Output = list_any (λ o. bytes_eq n o.pin) t.outputs
lists t n Inout = false

-- those of the library's pins that aren't listed
abbrev pub is_odd : MasterTables → MasterPin → Bool
is_odd t p = not p.supply && not (lists t p.name p.dir)

abbrev pub odd_pins : MasterTables → List MasterPin → List Name
odd_pins t ps = map (λ p. p.name) (filter (is_odd t) ps)

-- those of listed pins of a direction that aren't in the library
abbrev pub odd_names : Master → Dir → List Name → List Name
odd_names m d ns = filter (λ n. not (has_pin m n d)) ns

-- all of these
abbrev pub odd : Master → MasterTables → List Name
odd m t = odd_pins t m.pins ++ odd_names m Input t.inputs ++ odd_names m Output (map (λ o. o.pin) t.outputs)

-- from the least of some names the least of these and of more
abbrev pub Lessens : Option Name → List Name → Option Name → Type 0
Lessens old names new = (before : List Name) → IsLeast (Has before) old → IsLeast (Has (before ++ names)) new
