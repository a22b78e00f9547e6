use Rattle.eco_net.proofs.Whole.{whole}
use Rattle.eco_net.proofs.maker.NetlistMaker.counts.Goals as goal

pub returns-clause-whole : goal.returns-clause-whole
returns-clause-whole c = whole c.args.self.now c.net_count.ensures.listing
