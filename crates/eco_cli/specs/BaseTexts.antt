-- The four texts of a base.
use Rattle.std.specs.Prelude.{◌≢◌, ℕ, ◌≤◌, List, [], ◌∷◌, length, Result, Ok, Err}
use Rattle.eco_common.specs.declared.limits.TheConstants.{MAX_LEF_BYTES, MAX_DEF_BYTES}
use Rattle.eco_base.specs.Bases.{BaseParts}
use Rattle.eco_base.specs.Opened.{IsOpened, IsFirstFault}
use Rattle.eco_base.specs.declared.fault.BaseFault.{BaseFault}
use Rattle.eco_base.specs.declared.fault.BaseFault.TheVariants as base
use Rattle.eco_cli.specs.declared.base_texts.BaseTexts.{BaseTexts}
use Rattle.eco_cli.specs.declared.failure.Failure.{Failure}
use Rattle.eco_cli.specs.declared.failure.Failure.TheVariants as failed
use Rattle.eco_cli.specs.declared.refusal.Refusal.TheVariants as refused

abbrev pub texts_in : BaseTexts → List (List ℕ)
texts_in t = t.lef.items ∷ t.def.items ∷ t.functions.items ∷ t.desk.items ∷ []

-- a LEF, a DEF, a functions file and a desk file, the first two not too long to be read
abbrev pub AreBaseTexts : List (List ℕ) → Type 0
AreBaseTexts (lef ∷ def ∷ functions ∷ desk ∷ []) = (length lef ≤ MAX_LEF_BYTES) × (length def ≤ MAX_DEF_BYTES)
AreBaseTexts texts = ⊥

-- the texts are those of no base, by this first reason
abbrev pub RefusesBase : List ℕ → List ℕ → List ℕ → List ℕ → BaseFault → Type 0
RefusesBase lef def functions desk fault = IsFirstFault lef def functions desk fault × (fault ≢ base.Memory)

-- How the opening of a base ends: with the base of the texts; or they are refused; or memory ran out.
abbrev pub OpensBase : BaseTexts → Result BaseParts Failure → Type 0
OpensBase t (Ok b) = IsOpened t.lef.items t.def.items t.functions.items t.desk.items b
OpensBase t (Err (failed.Refused (refused.Base fault))) = RefusesBase t.lef.items t.def.items t.functions.items t.desk.items fault
OpensBase t (Err failed.Memory) = Unit {0}
OpensBase t (Err e) = ⊥
