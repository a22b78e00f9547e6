use Rattle.std.proofs.Common.{◌≡◌, ◌*◌, ◌≤◌}
use Rattle.eco_match.specs.Rows.{AreRows, ComesNext, rows_cost}
use Rattle.eco_match.proofs.tests.rows_of.Given as goal

abbrev pub invariant-gates : goal.invariant-gates
invariant-gates l = record {
  rows : AreRows l.bench l.rows;
  gates : l.rows.gates ≡ l.gates;
  count : l.rows.spares ≡ 5;
  pairs : l.rows.pairs ≡ 5 * l.gates;
  filled : l.rows.filled ≤ 5 * l.gate;
  next : ComesNext l.rows.gates (rows_cost l.bench l.rows) l.gate 0;
}
