-- What a check of masters answers.
use Rattle.std.specs.Prelude.{◌≡◌, Bool, is_none, List, Option, Some, None, Result, Ok, Err}
use Rattle.std.specs.List.{find}
use Rattle.eco_def.specs.Named.{NamedComp}
use Rattle.eco_func.specs.Masters.{MasterTables}
use Rattle.eco_lef.specs.declared.master.Master.{Master}
use Rattle.eco_lef.specs.Collected.{find_master}
use Rattle.eco_master_faults.specs.declared.fault.MasterFault.{MasterFault}
use Rattle.eco_master_faults.specs.declared.fault.MasterFault.TheVariants.{UnknownMaster, FunctionPins, Memory}
use Rattle.eco_master_faults.specs.Differing.{uses, NoneDiffers, IsFirstDiffering}

-- a component's model isn't in the library
abbrev pub is_unknown : List Master → NamedComp → Bool
is_unknown library c = is_none (find_master c.model library)

-- the first such component, in the order of the design's text
abbrev pub first_unknown : List Master → List NamedComp → Option NamedComp
first_unknown library comps = find (is_unknown library) comps

-- The first component of an unknown master. Where there is none, the first master that differs, and its first pin that
-- does. Else there is no fault.
abbrev pub Checks : List NamedComp → List Master → List MasterTables → Result (Unit {0}) MasterFault → Type 0
Checks comps library functions (Ok x) = (first_unknown library comps ≡ None) × NoneDiffers (uses comps) functions library
Checks comps library functions (Err (UnknownMaster name)) = (c : NamedComp) × (first_unknown library comps ≡ Some c) × (c.name ≡ name)
Checks comps library functions (Err (FunctionPins name pin)) = (first_unknown library comps ≡ None) × (m : Master) × IsFirstDiffering (uses comps) functions library m pin × (m.name ≡ name)
Checks comps library functions (Err Memory) = Unit {0}
