use Rattle.eco_net.proofs.DepthNames.{IsGreatestTo}
use Rattle.eco_net.proofs.netlist.Netlist.greatest_depth.Given as goal

abbrev pub invariant-loop-comp : goal.invariant-loop-comp
invariant-loop-comp l = IsGreatestTo l.self l.depths l.comp l.greatest
