use Rattle.std.proofs.Common.{◌∙◌, sym}
use Rattle.eco_func.proofs.Fits.{fit}
use Rattle.eco_func.proofs.document.outputs_of_master.Goals as goal

pub returns-clause-fit : goal.returns-clause-fit
returns-clause-fit c =
    fit c.args.master.now c.args.inputs.now c.in-Some.pins.now.entries c.requires (sym c.may_be_outputs.ensures.value ∙ c.if-not-may_be_outputs.false) c.may_be_outputs.ensures.order c.outputs.result c.outputs.ensures
