use Rattle.eco_base.proofs.Fitting.{fit_known}
use Rattle.eco_base.proofs.joining.check_fit.Goals as goal

pub returns-in-Ok-clause-fit : goal.returns-in-Ok-clause-fit
returns-in-Ok-clause-fit c = fit_known c.args.texts.now c.text.result.now c.design.result.now c.library.result.now c.functions.result.now c.text.ensures.value c.design.ensures c.library.ensures.value c.functions.ensures c.in-Ok.ensures
