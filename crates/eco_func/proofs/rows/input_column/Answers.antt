use Rattle.std.proofs.Common.{◌≡◌, ◌∙◌, ap, sym, arith}
use Rattle.eco_func.specs.Tables.{bit}
use Rattle.eco_func.proofs.Columns.{column_0, column_1, column_2, column_3, column_4, column_5}
use Rattle.eco_func.proofs.rows.input_column.Goals as goal

pub returns-in-0 : goal.returns-in-0
returns-in-0 c = λ r h. column_0 r h ∙ ap (bit r) (sym c.in-0.is)

pub returns-in-1 : goal.returns-in-1
returns-in-1 c = λ r h. column_1 r h ∙ ap (bit r) (sym c.in-1.is)

pub returns-in-2 : goal.returns-in-2
returns-in-2 c = λ r h. column_2 r h ∙ ap (bit r) (sym c.in-2.is)

pub returns-in-3 : goal.returns-in-3
returns-in-3 c = λ r h. column_3 r h ∙ ap (bit r) (sym c.in-3.is)

pub returns-in-4 : goal.returns-in-4
returns-in-4 c = λ r h. column_4 r h ∙ ap (bit r) (sym c.in-4.is)

pub returns-in_default : goal.returns-in_default
returns-in_default c = let e : c.args.input ≡ 5 = omega arith in λ r h. column_5 r h ∙ ap (bit r) (sym e)
