use Rattle.std.proofs.Common.{◌≡◌, ◌≤◌, take}
use Rattle.std.specs.Prelude.{count_by}
use Rattle.eco_base.specs.Found.{is_skipped_row}
use Rattle.eco_base.proofs.finding.count_skipped.Given as goal

abbrev pub invariant-loop-comp : goal.invariant-loop-comp
invariant-loop-comp l = record {
  few : l.skipped ≤ l.comp;
  value : l.skipped ≡ count_by (is_skipped_row l.desk l.net.nets) (take l.comp l.net.comps);
}
