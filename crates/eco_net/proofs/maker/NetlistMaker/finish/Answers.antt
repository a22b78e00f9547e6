use Rattle.eco_net.proofs.Whole.{whole}
use Rattle.eco_net.proofs.maker.NetlistMaker.finish.Goals as goal

pub returns-clause-whole : goal.returns-clause-whole
returns-clause-whole c = whole c.args.self c.facts.ensures.listing
