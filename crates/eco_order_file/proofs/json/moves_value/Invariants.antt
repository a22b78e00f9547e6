use Rattle.std.proofs.Common.{◌≡◌, drop, map, ◌++◌}
use Rattle.serde_json.specs.View.{view}
use Rattle.eco_order_file.specs.OrderValues.{move_value}
use Rattle.eco_order_file.proofs.json.moves_value.Given as goal

abbrev pub invariant-loop-moved : goal.invariant-loop-moved
invariant-loop-moved l = map view l.list.items ++ map move_value (drop l.moved-index l.moves) ≡ map move_value l.moves
