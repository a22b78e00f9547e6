use Rattle.std.proofs.Common.{◌≡◌, ◌*◌}
use Rattle.eco_match.specs.Rows.{AreRows, ComesNext, rows_cost}
use Rattle.match_bench.proofs.fill.Given as goal

abbrev pub invariant-gates : goal.invariant-gates
invariant-gates l = record {
  rows : AreRows l.bench l.rows;
  gates : l.rows.gates ≡ l.gates;
  count : l.rows.spares ≡ l.spares;
  pairs : l.rows.pairs ≡ l.gates * l.spares;
  filled : l.rows.filled ≡ l.gate * l.spares;
  next : ComesNext l.rows.gates (rows_cost l.bench l.rows) l.gate 0;
}
