use Rattle.std.proofs.Common.{◌≡◌, map, take, length}
use Rattle.eco_net.specs.ValuesOf.{bit_of}
use Rattle.eco_net.proofs.netlist.Netlist.output_value.Given as goal

abbrev pub invariant-loop-input : goal.invariant-loop-input
invariant-loop-input l = record {
  long : length l.bits ≡ 6;
  filled : take l.input l.bits ≡ map (bit_of l.values) (take l.input l.row.joined);
}
