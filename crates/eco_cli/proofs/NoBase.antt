-- Texts that are those of no base are refused.
use Rattle.std.proofs.Common.{ℕ, List, Err}
use Rattle.eco_base.specs.declared.fault.BaseFault.{BaseFault}
use Rattle.eco_cli.specs.BaseTexts.{RefusesBase, OpensBase}
use Rattle.eco_cli.specs.Steps.{Plans}
use Rattle.eco_cli.specs.declared.base_texts.BaseTexts.{BaseTexts}
use Rattle.eco_cli.specs.declared.done.Done.{Done}
use Rattle.eco_cli.specs.declared.failure.Failure.{Failure}
use Rattle.eco_cli.specs.declared.failure.Failure.TheVariants as failed
use Rattle.eco_cli.specs.declared.refusal.Refusal.{Refusal}
use Rattle.eco_cli.specs.declared.refusal.Refusal.TheVariants as refused

pub not_opened : (gives : Done → List ℕ → Type 0) (refuses : Refusal → Type 0) (t : BaseTexts) (e : Failure) →
    ((f : BaseFault) → RefusesBase t.lef.items t.def.items t.functions.items t.desk.items f → refuses (refused.Base f)) → OpensBase t (Err e) → Plans gives refuses (Err e)
not_opened gives refuses t (failed.Words n) told opens = absurd opens
not_opened gives refuses t (failed.TooLong option) told opens = absurd opens
not_opened gives refuses t (failed.Refused (refused.Def f)) told opens = absurd opens
not_opened gives refuses t (failed.Refused (refused.Move f)) told opens = absurd opens
not_opened gives refuses t (failed.Refused (refused.Base f)) told opens = told f opens
not_opened gives refuses t (failed.Refused (refused.Apply f)) told opens = absurd opens
not_opened gives refuses t failed.Read told opens = absurd opens
not_opened gives refuses t failed.Write told opens = absurd opens
not_opened gives refuses t failed.Memory told opens = tt
