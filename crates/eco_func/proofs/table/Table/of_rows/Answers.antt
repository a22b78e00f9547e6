use Rattle.std.proofs.Common.{◌^◌, ◌==◌, ap, ◌∙◌, bit_and}
use Rattle.std.specs.Int.{bit_at}
use Rattle.std.proofs.lemmas.Nat.{and_mask}
use Rattle.eco_func.proofs.RowBits.{low_bit}
use Rattle.eco_func.proofs.table.Table.of_rows.Goals as goal

pub returns-clause-values : goal.returns-clause-values
returns-clause-values c = λ r h. ap (λ n. bit_at n r == 1) (ap (bit_and c.args.word) c.low_rows.ensures ∙ and_mask c.args.word (2 ^ c.args.inputs)) ∙ ap (λ x. x == 1) (low_bit c.args.word (2 ^ c.args.inputs) r h)
