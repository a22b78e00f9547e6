use Rattle.eco_net.specs.ValuesOf.{start, computes}
use Rattle.eco_net.proofs.InOrder.{IsSetTo}
use Rattle.eco_net.proofs.netlist.Netlist.value_all.Given as goal

abbrev pub invariant-loop-net : goal.invariant-loop-net
invariant-loop-net l = IsSetTo l.self (start l.self l.cut) (computes l.self) l.net-items l.net-index l.bits.items
