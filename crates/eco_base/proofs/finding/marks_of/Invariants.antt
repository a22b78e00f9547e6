use Rattle.std.proofs.Common.{◌≡◌, map, take}
use Rattle.eco_base.specs.Found.{is_stock_row}
use Rattle.eco_base.proofs.finding.marks_of.Given as goal

abbrev pub invariant-loop-comp : goal.invariant-loop-comp
invariant-loop-comp l = l.marks.items ≡ map (is_stock_row l.desk l.net.nets) (take l.comp l.net.comps)
