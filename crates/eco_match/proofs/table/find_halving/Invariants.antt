use Rattle.std.proofs.Common.{ℕ, ◌<◌, ◌≤◌, ◌-◌, slice_index}
use Rattle.eco_match.proofs.table.find_halving.Given as goal

abbrev pub invariant-halves : goal.invariant-halves
invariant-halves l = record {
  low : l.start ≤ l.low;
  high : l.high ≤ l.end;
  before : (i : ℕ) → l.start ≤ i → i < l.low → slice_index l.spares i < l.spare;
  after : (i : ℕ) → l.high ≤ i → i < l.end → l.spare < slice_index l.spares i;
}

abbrev pub decreases-halves : goal.decreases-halves
decreases-halves l = l.high - l.low
