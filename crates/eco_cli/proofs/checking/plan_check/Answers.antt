use Rattle.std.proofs.Common.{refl}
use Rattle.std.proofs.lemmas.Result.{err_from_is_err_and}
use Rattle.eco_cli.specs.BaseTexts.{texts_in}
use Rattle.eco_cli.specs.CheckCommand.{CheckGives, CheckRefuses}
use Rattle.eco_cli.proofs.NoBase.{not_opened}
use Rattle.eco_cli.proofs.checking.plan_check.Goals as goal

pub returns-in_err-base : goal.returns-in_err-base
returns-in_err-base c =
    let p = err_from_is_err_and c.from_residual.result c.from_residual.ensures.1 in
    rw (p.1, p.2) (not_opened (CheckGives (texts_in c.args.texts)) (CheckRefuses (texts_in c.args.texts)) c.args.texts c.in_err-base.field-0.0 (λ f refused. refused) c.in_err-base.ensures)

pub returns : goal.returns
returns c = ((record { base = c.in_ok-base.base; opened = c.in_ok-base.ensures; report = c.report_on.ensures }, refl), tt)
