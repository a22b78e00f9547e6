use Rattle.eco_net.specs.Rings.{IsLeastAt}
use Rattle.eco_net.proofs.netlist.Netlist.least.Given as goal

abbrev pub invariant-loop-place : goal.invariant-loop-place
invariant-loop-place l = IsLeastAt l.self.nets l.nets l.place l.least
