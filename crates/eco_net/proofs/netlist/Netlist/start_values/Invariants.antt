use Rattle.std.proofs.Common.{◌≡◌, map}
use Rattle.std.specs.List.{range_with_len}
use Rattle.eco_net.specs.ValuesOf.{keys_before, start}
use Rattle.eco_net.proofs.netlist.Netlist.start_values.Given as goal

abbrev pub invariant-loop-net : goal.invariant-loop-net
invariant-loop-net l = record {
  counted : l.keys ≡ keys_before l.self l.net;
  started : l.values.items ≡ map (start l.self l.cut) (range_with_len 0 l.net);
}
