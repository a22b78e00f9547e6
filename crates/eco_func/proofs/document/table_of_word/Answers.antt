use Rattle.std.proofs.Common.{◌∙◌, length, arith}
use Rattle.eco_func.specs.Expressions.{value_at}
use Rattle.eco_func.proofs.Powers.{few_rows}
use Rattle.eco_func.proofs.RowValues.{table_is}
use Rattle.eco_func.proofs.document.table_of_word.Goals as goal

pub returns : goal.returns
returns c = λ e same. table_is c.of_rows.result (length c.args.inputs.now) (value_at c.args.inputs.now e) c.of_rows.ensures.inputs c.of_rows.ensures.is_table (λ r h. c.of_rows.ensures.values r h ∙ same r (omega (arith, h, few_rows (length c.args.inputs.now) c.requires)))
