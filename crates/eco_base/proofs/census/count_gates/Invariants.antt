use Rattle.std.proofs.Common.{◌≡◌, ◌≤◌, take}
use Rattle.std.specs.Prelude.{count_by}
use Rattle.eco_base.specs.Census.{is_gate_row}
use Rattle.eco_base.proofs.census.count_gates.Given as goal

-- the gates so far
abbrev pub invariant-loop-comp : goal.invariant-loop-comp
invariant-loop-comp l = record {
  few : l.gates ≤ l.comp;
  value : l.gates ≡ count_by is_gate_row (take l.comp l.net.comps);
}
