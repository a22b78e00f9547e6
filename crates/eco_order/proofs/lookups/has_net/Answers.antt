use Rattle.eco_order.proofs.Looking.{net_known}
use Rattle.eco_order.proofs.lookups.has_net.Goals as goal

pub returns-in-Some : goal.returns-in-Some
returns-in-Some c = net_known c.args.net.now c.facts.ensures.listing c.in-Some.field-0.0 c.args.name.now c.in-Some.ensures
