use Rattle.std.proofs.Common.{◌≡◌, ◌<◌, ℕ, drop, map, ◌++◌, get_or}
use Rattle.serde_json.specs.View.{view}
use Rattle.eco_order_file.specs.Orders.{Gate, IsWhole}
use Rattle.eco_order_file.specs.OrderValues.{gate_value}
use Rattle.eco_order_file.proofs.json.gates_value.Given as goal

abbrev pub invariant-loop-gate : goal.invariant-loop-gate
invariant-loop-gate l = record {
  value : map view l.list.items ++ map gate_value (drop l.gate-index l.gates) ≡ map gate_value l.gates;
  whole : (k : ℕ) (d : Gate) → k < l.gate-index → IsWhole (get_or l.gates k d);
}
