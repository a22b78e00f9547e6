use Rattle.eco_func.proofs.RowSteps.{RowSoFar}
use Rattle.eco_func.proofs.table.row_of.Given as goal

abbrev pub invariant-loop-place : goal.invariant-loop-place
invariant-loop-place l = RowSoFar l.bits l.row l.place
