use Rattle.std.proofs.Common.{ℕ, List, [], ◌∷◌, Result, Ok, Err, map, string_bytes}
use Rattle.eco_cli.specs.ApplyCommand.{Apply, AsksApply, GivesPatched, RefusesPatch, ApplyGives, ApplyRefuses, apply_of}
use Rattle.eco_cli.specs.Steps.{Plans}
use Rattle.eco_cli.specs.declared.plan.Plan.{Plan}
use Rattle.eco_cli.specs.declared.failure.Failure.{Failure}
use Rattle.eco_cli.specs.declared.failure.Failure.TheVariants as failed
use Rattle.eco_cli.proofs.applying.plan_apply.Goals as goal

-- a plan for what the words ask
asked_plans : (words : List (List ℕ)) (a : Apply) (lef def functions desk : List ℕ) (r : Result Plan Failure) → AsksApply words a → Plans (GivesPatched a lef def functions desk) (RefusesPatch a lef def functions desk) r →
    Plans (ApplyGives words (lef ∷ def ∷ functions ∷ desk ∷ [])) (ApplyRefuses words (lef ∷ def ∷ functions ∷ desk ∷ [])) r
asked_plans words a lef def functions desk (Ok p) asks plans = ((a, asks, plans.0), plans.1)
asked_plans words a lef def functions desk (Err (failed.Words n)) asks plans = absurd plans
asked_plans words a lef def functions desk (Err (failed.TooLong option)) asks plans = absurd plans
asked_plans words a lef def functions desk (Err (failed.Refused refusal)) asks plans = (a, asks, plans)
asked_plans words a lef def functions desk (Err failed.Read) asks plans = absurd plans
asked_plans words a lef def functions desk (Err failed.Write) asks plans = absurd plans
asked_plans words a lef def functions desk (Err failed.Memory) asks plans = tt

pub returns-in-Ok : goal.returns-in-Ok
returns-in-Ok c =
    asked_plans (map string_bytes c.args.words.now) (apply_of c.in-Ok.asked) c.args.texts.lef.items c.args.texts.def.items c.args.texts.functions.items c.args.texts.desk.items c.patch.result c.in-Ok.ensures c.patch.ensures
