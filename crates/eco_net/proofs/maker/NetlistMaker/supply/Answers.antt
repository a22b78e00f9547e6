use Rattle.eco_net.proofs.ByNames.{supply_named}
use Rattle.eco_net.proofs.maker.NetlistMaker.supply.Goals as goal

pub returns-clause-named : goal.returns-clause-named
returns-clause-named c = supply_named c.args.self.now c.facts.ensures.listing c.args.net.0 c.net.result.now c.net.ensures
