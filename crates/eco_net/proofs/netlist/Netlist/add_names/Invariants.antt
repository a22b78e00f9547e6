use Rattle.std.proofs.Common.{◌≡◌, ◌++◌, map, take}
use Rattle.eco_net.specs.Listing.{net_name}
use Rattle.eco_net.proofs.netlist.Netlist.add_names.Given as goal

abbrev pub invariant-loop-net : goal.invariant-loop-net
invariant-loop-net l = l.names.items ≡ l.fn.names.items ++ map (net_name l.self.nets) (take l.net-index l.nets)
