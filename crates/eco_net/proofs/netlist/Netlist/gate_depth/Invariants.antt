use Rattle.std.proofs.Common.{◌≡◌, take}
use Rattle.eco_net.specs.DepthsOf.{deepest}
use Rattle.eco_net.proofs.netlist.Netlist.gate_depth.Given as goal

abbrev pub invariant-loop-input : goal.invariant-loop-input
invariant-loop-input l = l.deepest ≡ deepest l.depths (take l.input l.row.joined)
