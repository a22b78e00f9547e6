-- The four texts of a base, read.
use Rattle.std.specs.Prelude.{◌≡◌, ℕ, true, List, Ok}
use Rattle.std.specs.List.{All, list_all}
use Rattle.eco_common.specs.declared.limits.TheConstants.{MAX_MASTERS}
use Rattle.eco_lef.specs.declared.master.Master.{Master}
use Rattle.eco_lef.specs.Grammar.{library_within}
use Rattle.eco_lef.specs.Names.{HaveOwnNames, are_words}
use Rattle.eco_lef.specs.Sizes.{KeepSizes}
use Rattle.eco_def.specs.declared.design.Design.{Design}
use Rattle.eco_def.specs.Sections.{IsReadingOf}
use Rattle.eco_func.specs.Masters.{MasterTables, is_master}
use Rattle.eco_func.specs.FunctionsFile.{ReadsFunctions}
use Rattle.eco_desk_file.specs.Desk.{Desk}
use Rattle.eco_desk_file.specs.DeskText.{ReadsDesk}

-- text: the DEF, whose design is given by places in it
pub record TextParts : Type 0 where
  pub text : List ℕ
  pub design : Design
  pub library : List Master
  pub functions : List MasterTables
  pub desk : Desk

-- The design is the text's reading. No two masters of the library have the same name, and no two pins of a master have; all these
-- names are words. No master is too large. Each entry of the functions file makes a master.
pub record AreRead (t : TextParts) : Type 0 where
  pub reading : IsReadingOf t.text t.design
  pub own_names : HaveOwnNames t.library
  pub sizes : KeepSizes t.library
  pub words : list_all are_words t.library ≡ true
  pub masters : All (λ m. is_master m.inputs m.outputs ≡ true) t.functions

-- the masters of a LEF text
abbrev pub IsLibrary : List ℕ → List Master → Type 0
IsLibrary lef masters = library_within MAX_MASTERS lef ≡ Ok masters

-- these texts say these parts
pub record IsReadFrom (lef def functions desk : List ℕ) (t : TextParts) : Type 0 where
  pub text_is : t.text ≡ def
  pub library_is : IsLibrary lef t.library
  pub design_is : IsReadingOf def t.design
  pub functions_are : ReadsFunctions functions (Ok t.functions)
  pub desk_is : ReadsDesk desk (Ok t.desk)
