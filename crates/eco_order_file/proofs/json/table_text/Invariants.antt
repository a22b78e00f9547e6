use Rattle.std.proofs.Common.{◌≡◌, map, string_bytes}
use Rattle.std.specs.List.{range_with_len}
use Rattle.eco_func.specs.Tables.{at}
use Rattle.eco_order_file.specs.OrderValues.{digit}
use Rattle.eco_order_file.proofs.json.table_text.Given as goal

abbrev pub invariant-loop-row : goal.invariant-loop-row
invariant-loop-row l = string_bytes l.text ≡ map (λ r. digit (at l.table r)) (range_with_len 0 l.row)
