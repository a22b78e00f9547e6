use Rattle.std.proofs.Common.{◌≡◌, drop, map, ◌++◌}
use Rattle.serde_json.specs.View.{view}
use Rattle.eco_order_file.specs.OrderValues.{name_value}
use Rattle.eco_order_file.proofs.json.names_value.Given as goal

abbrev pub invariant-loop-name : goal.invariant-loop-name
invariant-loop-name l = map view l.list.items ++ map name_value (drop l.name-index l.names) ≡ map name_value l.names
