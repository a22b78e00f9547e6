use Rattle.std.proofs.Common.{◌∙◌}
use Rattle.eco_elaborate.specs.Stated.{named_nets}
use Rattle.eco_elaborate.specs.Stages.{supply_value}
use Rattle.eco_elaborate.proofs.Valued.{differing}
use Rattle.eco_elaborate.proofs.supplies.first_two_valued.Goals as goal

pub returns : goal.returns
returns c = c.first_differing.ensures ∙ differing c.args.text.now (supply_value c.in_ok-supplies.supplies) c.args.nets.now (named_nets c.args.text.now c.args.nets.now) c.in_ok-supplies.ensures
