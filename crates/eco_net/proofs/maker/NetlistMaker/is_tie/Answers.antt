use Rattle.eco_net.proofs.ByNames.{tie_named}
use Rattle.eco_net.proofs.maker.NetlistMaker.is_tie.Goals as goal

pub returns-clause-named : goal.returns-clause-named
returns-clause-named c = tie_named c.args.self.now c.facts.ensures.listing c.args.net.0 c.net.result.now c.net.ensures
