use Rattle.std.proofs.Common.{◌≡◌}
use Rattle.std.specs.List.{filter_map, range_with_len}
use Rattle.eco_net.specs.KeysOf.{key_at}
use Rattle.eco_net.proofs.netlist.Netlist.cut_keys.Given as goal

abbrev pub invariant-loop-net : goal.invariant-loop-net
invariant-loop-net l = l.keys.items ≡ filter_map (key_at l.self) (range_with_len 0 l.net)
