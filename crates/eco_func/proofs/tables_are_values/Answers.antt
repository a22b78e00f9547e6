use Rattle.std.proofs.Common.{◌^◌, false, length, map, ◌∙◌, arith}
use Rattle.std.specs.List.{range_with_len}
use Rattle.std.proofs.lemmas.List.FromFn.{get_or-map-range_with_len}
use Rattle.eco_func.specs.Expressions.{value_at}
use Rattle.eco_func.proofs.RowLaws.{bit_of_row}
use Rattle.eco_func.proofs.tables_are_values.Goals as goal

pub returns : goal.returns
returns c = λ inputs e r h. bit_of_row (map (value_at inputs e) (range_with_len 0 (2 ^ length inputs))) r ∙ get_or-map-range_with_len (value_at inputs e) 0 (2 ^ length inputs) r r false h (omega arith)
