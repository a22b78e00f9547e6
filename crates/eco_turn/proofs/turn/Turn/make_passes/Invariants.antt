use Rattle.std.proofs.Common.{◌≡◌, ℕ, ◌+◌, [], length, vec_capacity}
use mathlib.Core.Option.{some}
use lib.ListN.{get_elem?}
use Rattle.eco_turn.specs.Turn.{turn_start, IsNew}
use Rattle.eco_turn.proofs.turn.Turn.make_passes.Given as goal

abbrev pub invariant-loop-made : goal.invariant-loop-made
invariant-loop-made g l = record {
  table : l.seat.table_id ≡ l.fn.seat.table_id;
  seat : l.seat.me ≡ (record l.fn.seat.me.0 { seats = l.made + 1 }, []);
  count : length l.list.items ≡ l.made;
  room : vec_capacity l.list ≡ vec_capacity l.fn.list;
  each : (k : ℕ) (p : _) → get_elem? l.list.items k ≡ some p → IsNew g.T.Kept.entries g.T.Kept.fixed l.self (turn_start l.self) (k + 1) p;
}
