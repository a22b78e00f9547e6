use Rattle.eco_order.proofs.Looking.{no_net_fixed}
use Rattle.eco_order.proofs.lookups.is_fixed.Goals as goal

pub returns-in-None : goal.returns-in-None
returns-in-None c = no_net_fixed c.args.net.now c.facts.ensures.listing c.args.name.now c.in-None.ensures
