-- The masters that a design uses, and whose pins aren't as the functions file lists them (LEF/DEF 5.8 Language Reference,
-- "Macro Pin"; the functions file is this project's own form).
use Rattle.std.specs.Prelude.{◌≡◌, ◌≢◌, ◌⊎◌, ◌++◌, ◌∷◌, Bool, true, List, map, Option, Some, None}
use Rattle.std.specs.List.{list_any}
use Rattle.std.specs.Str.{bytes_eq}
use Rattle.std.specs.declared.cmp.Ordering.TheVariants.{Less}
use Rattle.eco_common.specs.declared.geometry.Dir.{Dir}
use Rattle.eco_common.specs.declared.geometry.Dir.TheVariants.{Input, Output}
use Rattle.eco_def.specs.Named.{NamedComp}
use Rattle.eco_func.specs.Masters.{MasterTables}
use Rattle.eco_func.specs.FunctionsFile.{find_master as find_function}
use Rattle.eco_lef.specs.declared.master.Master.{Master}
use Rattle.eco_net.specs.Among.{Has}
use Rattle.eco_net.specs.Netlist.{Name, name_cmp}
use Rattle.eco_master_faults.specs.Tables.{library_pins}

-- a component has the master of this name as its model
abbrev pub uses : List NamedComp → Name → Bool
uses comps name = list_any (λ c. bytes_eq c.model name) comps

-- the pins that the functions file lists for a master: its inputs as INPUT, its outputs as OUTPUT
abbrev pub function_pins : MasterTables → List (Name × Dir)
function_pins t = map (λ n. (n, Input)) t.inputs ++ map (λ o. (o.pin, Output)) t.outputs

-- one of the lists has it, and the other hasn't
abbrev pub IsInOne : {A : Type 0} → List A → List A → A → Type 0
IsInOne xs ys x = (Has xs x × ¬ (Has ys x)) ⊎ (Has ys x × ¬ (Has xs x))

-- the library and the functions file don't both have the pin, or have it with different directions
abbrev pub PinDiffers : Master → MasterTables → Name → Type 0
PinDiffers m t pin = (d : Dir) × IsInOne (library_pins m) (function_pins t) (pin, d)

-- a used master that the functions file names has this pin otherwise than it is listed there
pub record Differs (used : Name → Bool) (functions : List MasterTables) (m : Master) (pin : Name) : Type 0 where
  pub in_use : used m.name ≡ true
  pub tables : MasterTables
  pub named : find_function m.name functions ≡ Some tables
  pub differs : PinDiffers m tables pin

abbrev pub NoneDiffers : (Name → Bool) → List MasterTables → List Master → Type 0
NoneDiffers used functions ms = (m : Master) (pin : Name) → Has ms m → ¬ (Differs used functions m pin)

-- the least name with a property, by bytes; none where no name has it
abbrev pub IsLeast : (Name → Type 0) → Option Name → Type 0
IsLeast P None = (n : Name) → ¬ (P n)
IsLeast P (Some least) = P least × ((n : Name) → P n → name_cmp n least ≢ Less)

-- the first master of a library that differs, in its order, and the least of its pins that differ
pub record IsFirstDiffering (used : Name → Bool) (functions : List MasterTables) (library : List Master) (m : Master) (pin : Name) : Type 0 where
  pub front : List Master
  pub back : List Master
  pub stands : library ≡ front ++ m ∷ back
  pub before : NoneDiffers used functions front
  pub least : IsLeast (Differs used functions m) (Some pin)

-- that master and that pin, or none where no master differs
abbrev pub FirstDiffering : (Name → Bool) → List MasterTables → List Master → Option (Master × Name) → Type 0
FirstDiffering used functions library None = NoneDiffers used functions library
FirstDiffering used functions library (Some x) = IsFirstDiffering used functions library x.0 x.1
