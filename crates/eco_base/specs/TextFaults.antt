-- Whether a LEF, a DEF, a functions file and a desk file can be read, and the first fault of each.
use Rattle.std.specs.Prelude.{◌≢◌, ℕ, List, Ok, Err}
use Rattle.eco_common.specs.declared.limits.TheConstants.{MAX_MASTERS}
use Rattle.eco_lef.specs.declared.master.Master.{Master}
use Rattle.eco_lef.specs.declared.fault.LefFault.{LefFault}
use Rattle.eco_lef.specs.declared.fault.LefFault.TheVariants.{Memory as NoRoomForLef}
use Rattle.eco_lef.specs.Grammar.{library_within}
use Rattle.eco_lef.specs.Reading.{Refuses}
use Rattle.eco_def.specs.declared.design.Design.{Design}
use Rattle.eco_def.specs.declared.fault.DefFault.{DefFault}
use Rattle.eco_def.specs.declared.fault.DefFault.TheVariants.{Memory as NoRoomForDef}
use Rattle.eco_def.specs.Answers.{Answers}
use Rattle.eco_def.specs.Sections.{IsReadingOf}
use Rattle.eco_func.specs.Masters.{MasterTables}
use Rattle.eco_func.specs.declared.fault.FuncFault.{FuncFault}
use Rattle.eco_func.specs.declared.fault.FuncFault.TheVariants.{Memory as NoRoomForFunctions}
use Rattle.eco_func.specs.FunctionsFile.{ReadsFunctions}
use Rattle.eco_desk_file.specs.DeskText.{Says}
use Rattle.eco_base.specs.declared.fault.BaseFault.{BaseFault}
use Rattle.eco_base.specs.declared.fault.BaseFault.TheVariants.{Lef, Def, Func, Desk, Memory}
use Rattle.eco_base.specs.Texts.{IsLibrary}

-- ---- the first fault of each text

abbrev pub HasLefFault : List ℕ → LefFault → Type 0
HasLefFault lef fault = Refuses (library_within MAX_MASTERS lef) fault × (fault ≢ NoRoomForLef)

abbrev pub HasDefFault : List ℕ → DefFault → Type 0
HasDefFault def fault = Answers def (Err fault) × (fault ≢ NoRoomForDef)

abbrev pub HasFuncFault : List ℕ → FuncFault → Type 0
HasFuncFault functions fault = ReadsFunctions functions (Err fault) × (fault ≢ NoRoomForFunctions)

abbrev pub HasDeskFault : List ℕ → List ℕ → Type 0
HasDeskFault desk field = Says desk (Err field)

-- ---- texts without a fault

abbrev pub HasLibrary : List ℕ → Type 0
HasLibrary lef = (masters : List Master) × IsLibrary lef masters

abbrev pub HasDesign : List ℕ → Type 0
HasDesign def = (design : Design) × IsReadingOf def design

abbrev pub HasFunctions : List ℕ → Type 0
HasFunctions functions = (tables : List MasterTables) × ReadsFunctions functions (Ok tables)

-- ---- steps: one text alone, its first fault or out of memory

abbrev pub BlamesLef : List ℕ → BaseFault → Type 0
BlamesLef lef (Lef fault) = HasLefFault lef fault
BlamesLef lef Memory = Unit {0}
BlamesLef lef other = ⊥

abbrev pub BlamesDef : List ℕ → BaseFault → Type 0
BlamesDef def (Def fault) = HasDefFault def fault
BlamesDef def Memory = Unit {0}
BlamesDef def other = ⊥

abbrev pub BlamesFunctions : List ℕ → BaseFault → Type 0
BlamesFunctions functions (Func fault) = HasFuncFault functions fault
BlamesFunctions functions Memory = Unit {0}
BlamesFunctions functions other = ⊥

abbrev pub BlamesDesk : List ℕ → BaseFault → Type 0
BlamesDesk desk (Desk field) = HasDeskFault desk field
BlamesDesk desk Memory = Unit {0}
BlamesDesk desk other = ⊥
