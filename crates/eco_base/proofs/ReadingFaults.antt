-- The fault of one text is that of the four, where the texts before it can be read.
use Rattle.std.proofs.Common.{ℕ, List}
use Rattle.eco_base.specs.declared.fault.BaseFault.{BaseFault}
use Rattle.eco_base.specs.declared.fault.BaseFault.TheVariants.{Lef, Def, Func, Desk, Memory}
use Rattle.eco_base.specs.TextFaults.{HasLibrary, HasDesign, HasFunctions, BlamesLef, BlamesDef, BlamesFunctions, BlamesDesk}
use Rattle.eco_base.specs.Opened.{IsFirstFault}

module _ (lef def functions desk : List ℕ) where
  pub lef_first : (e : BaseFault) → BlamesLef lef e → IsFirstFault lef def functions desk e
  lef_first (Lef fault) h = h
  lef_first Memory h = tt
  lef_first other h = absurd h

  pub def_first : HasLibrary lef → (e : BaseFault) → BlamesDef def e → IsFirstFault lef def functions desk e
  def_first library (Def fault) h = (library, h)
  def_first library Memory h = tt
  def_first library other h = absurd h

  pub functions_first : HasLibrary lef → HasDesign def → (e : BaseFault) → BlamesFunctions functions e → IsFirstFault lef def functions desk e
  functions_first library design (Func fault) h = (library, design, h)
  functions_first library design Memory h = tt
  functions_first library design other h = absurd h

  pub desk_first : HasLibrary lef → HasDesign def → HasFunctions functions → (e : BaseFault) → BlamesDesk desk e → IsFirstFault lef def functions desk e
  desk_first library design tables (Desk field) h = (library, design, tables, h)
  desk_first library design tables Memory h = tt
  desk_first library design tables other h = absurd h
