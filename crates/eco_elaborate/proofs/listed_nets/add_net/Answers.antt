use Rattle.eco_elaborate.proofs.Adding.{net_there, new_net, old_net}
use Rattle.eco_elaborate.proofs.listed_nets.add_net.Goals as goal

pub returns-in_ok-add_net-in-None : goal.returns-in_ok-add_net-in-None
returns-in_ok-add_net-in-None c value e = new_net value c.args.maker.now c.args.name.now c.args.supply e c.facts.ensures.listing c.in-None.ensures c.add_net.new.self c.in_ok-add_net-in-None.ensures.ok

pub returns-in-Some : goal.returns-in-Some
returns-in-Some c value e =
    let s = net_there c.args.maker.now c.facts.ensures.listing c.in-Some.field-0.0 c.args.name.now c.in-Some.ensures in
    old_net value c.args.maker.now c.args.name.now c.args.supply e s.0 s.1
