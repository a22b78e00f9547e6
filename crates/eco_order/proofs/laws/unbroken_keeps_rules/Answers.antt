use Rattle.eco_order.proofs.Unbroken.{unbroken_keeps_rules}
use Rattle.eco_order.proofs.laws.unbroken_keeps_rules.Goals as goal

pub returns : goal.returns
returns c = unbroken_keeps_rules
