use Rattle.std.proofs.Common.{◌∙◌}
use Rattle.eco_one_gate.proofs.MovedPins.{found_net}
use Rattle.eco_one_gate.proofs.good_order.is_net.Goals as goal

pub returns : goal.returns
returns c = c.is_some.ensures ∙ found_net c.args.netlist.now c.requires c.args.name.now c.find_net.result c.find_net.ensures
