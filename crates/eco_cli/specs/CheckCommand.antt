-- What the command check does.
use Rattle.std.specs.Prelude.{◌≡◌, ℕ, List, [], ◌∷◌, codes}
use Rattle.eco_common.specs.declared.limits.TheConstants.{MAX_LEF_BYTES, MAX_DEF_BYTES, MAX_FUNCTIONS_BYTES, MAX_DESK_BYTES}
use Rattle.eco_net.specs.Depth.{IsDepth}
use Rattle.eco_net.specs.Bases.{bare}
use Rattle.eco_base.specs.Bases.{BaseParts, frozen}
use Rattle.eco_base.specs.Census.{IsCensusOf}
use Rattle.eco_base.specs.Opened.{IsOpened}
use Rattle.eco_cli.specs.BaseTexts.{RefusesBase}
use Rattle.eco_cli.specs.CommandLine.{Listed}
use Rattle.eco_cli.specs.declared.command_option.OptionKind.TheVariants as kind
use Rattle.eco_cli.specs.declared.done.Done.{Done}
use Rattle.eco_cli.specs.declared.done.Done.TheVariants as done
use Rattle.eco_cli.specs.declared.refusal.Refusal.{Refusal}
use Rattle.eco_cli.specs.declared.refusal.Refusal.TheVariants as refused
use Rattle.eco_cli.specs.declared.report.Report.{Report}

abbrev pub check_options : List Listed
check_options =
    record { word = codes "--lef"; kind = kind.Input MAX_LEF_BYTES }
    ∷ record { word = codes "--def"; kind = kind.Input MAX_DEF_BYTES }
    ∷ record { word = codes "--functions"; kind = kind.Input MAX_FUNCTIONS_BYTES }
    ∷ record { word = codes "--desk"; kind = kind.Input MAX_DESK_BYTES }
    ∷ []

-- how much a base has, and how deep its gates stand where the stock is left out
pub record IsReportOf (b : BaseParts) (r : Report) : Type 0 where
  pub census : IsCensusOf b.texts r.census
  pub levels : IsDepth (bare (frozen b.texts)) r.levels

-- the texts are those of a base, and this is its report
pub record IsChecked (lef def functions desk : List ℕ) (r : Report) : Type 0 where
  pub base : BaseParts
  pub opened : IsOpened lef def functions desk base
  pub report : IsReportOf base r

-- A check has the four texts of a base. It writes nothing.
abbrev pub CheckGives : List (List ℕ) → Done → List ℕ → Type 0
CheckGives (lef ∷ def ∷ functions ∷ desk ∷ []) (done.Checked report) written = IsChecked lef def functions desk report × (written ≡ [])
CheckGives texts d written = ⊥

abbrev pub CheckRefuses : List (List ℕ) → Refusal → Type 0
CheckRefuses (lef ∷ def ∷ functions ∷ desk ∷ []) (refused.Base fault) = RefusesBase lef def functions desk fault
CheckRefuses texts r = ⊥
