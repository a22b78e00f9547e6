-- Laws of a library with room for so many macros.
use Rattle.std.specs.Prelude.{◌≡◌, ℕ, ◌≤◌, ◌⊎◌, List, length, Ok, Err}
use Rattle.eco_lef.specs.declared.fault.LefFault.{LefFault}
use Rattle.eco_lef.specs.declared.fault.LefFault.TheVariants.{TooManyMasters}
use Rattle.eco_lef.specs.declared.master.Master.{Master}
use Rattle.eco_lef.specs.Grammar.{library_of, library_within}

-- The libraries within a limit are those of at most so many masters. A text that gives none has a fault of its own, or a
-- macro too many before it.
pub record LimitsKeep : Type 0 where
  pub few : (most : ℕ) (text : List ℕ) (masters : List Master) → library_within most text ≡ Ok masters → (library_of text ≡ Ok masters) × (length masters ≤ most)
  pub each : (most : ℕ) (text : List ℕ) (masters : List Master) → library_of text ≡ Ok masters → length masters ≤ most → library_within most text ≡ Ok masters
  pub faults : (most : ℕ) (text : List ℕ) (e : LefFault) → library_within most text ≡ Err e → ((place : ℕ) × (e ≡ TooManyMasters place)) ⊎ (library_of text ≡ Err e)

-- these are the masters of the text, and no more than the limit
abbrev pub IsLibraryOf : ℕ → List ℕ → List Master → Type 0
IsLibraryOf most text masters = (library_of text ≡ Ok masters) × (length masters ≤ most)
