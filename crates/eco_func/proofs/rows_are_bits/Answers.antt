use Rattle.eco_func.proofs.RowLaws.{bit_of_row}
use Rattle.eco_func.proofs.rows_are_bits.Goals as goal

pub returns : goal.returns
returns c = bit_of_row
