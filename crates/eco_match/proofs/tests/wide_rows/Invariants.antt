use Rattle.std.proofs.Common.{◌≡◌, ◌*◌}
use Rattle.eco_match.specs.Rows.{AreRows, ComesNext, rows_cost}
use Rattle.eco_match.proofs.tests.wide_rows.Given as goal

abbrev pub invariant-gates : goal.invariant-gates
invariant-gates l = record {
  rows : AreRows l.bench l.rows;
  gates : l.rows.gates ≡ 128;
  count : l.rows.spares ≡ 8192;
  pairs : l.rows.pairs ≡ 1048576;
  filled : l.rows.filled ≡ l.gate * 8192;
  next : ComesNext l.rows.gates (rows_cost l.bench l.rows) l.gate 0;
}
