use Rattle.std.proofs.Common.{◌∙◌}
use Rattle.eco_base.proofs.Fitting.{nets_found}
use Rattle.eco_base.proofs.joining.check_nets.Goals as goal

pub returns-in-Ok-None-clause-none : goal.returns-in-Ok-None-clause-none
returns-in-Ok-None-clause-none c =
    nets_found c.args.texts.now c.args.table.now c.text.result.now c.design.result.now c.requires c.text.ensures.value c.design.ensures c.in-Ok-None.field-0 c.in-Ok-None.ensures ∙ c.in-Ok-None.field-0-is

pub returns-in-Ok-Some-clause-fault : goal.returns-in-Ok-Some-clause-fault
returns-in-Ok-Some-clause-fault c =
    nets_found c.args.texts.now c.args.table.now c.text.result.now c.design.result.now c.requires c.text.ensures.value c.design.ensures c.in-Ok-Some.field-0 c.in-Ok-Some.ensures ∙ c.in-Ok-Some.field-0-is
