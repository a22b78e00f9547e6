use Rattle.std.proofs.Common.{◌≡◌, ◌+◌, ◌*◌}
use Rattle.eco_match.specs.Rows.{AreRows, ComesNext, rows_cost}
use Rattle.match_bench.proofs.fill_row.Given as goal

abbrev pub invariant-spares : goal.invariant-spares
invariant-spares l = record {
  rows : AreRows l.bench l.rows;
  gates : l.rows.gates ≡ l.initial.rows.gates;
  count : l.rows.spares ≡ l.initial.rows.spares;
  pairs : l.rows.pairs ≡ l.initial.rows.pairs;
  filled : l.rows.filled ≡ l.gate * l.spares + l.spare;
  next : ComesNext l.rows.gates (rows_cost l.bench l.rows) l.gate l.spare;
}
