use Rattle.eco_net.proofs.DepthNumbers.{depth_by, NoneOver}
use Rattle.eco_net.proofs.InOrder.{IsSetTo}
use Rattle.eco_net.proofs.netlist.Netlist.net_depths.Given as goal

abbrev pub invariant-loop-net : goal.invariant-loop-net
invariant-loop-net l = record {
  set : IsSetTo l.self (λ n. 0) (depth_by l.self) l.order l.net-index l.depths.items;
  few : NoneOver l.depths.items l.net-index;
}
