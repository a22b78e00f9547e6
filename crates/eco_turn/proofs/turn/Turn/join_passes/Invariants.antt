use Rattle.std.proofs.Common.{◌≡◌, ◌⊎◌, ℕ, []}
use mathlib.Core.Option.{some}
use lib.ListN.{get_elem?}
use Rattle.eco_turn.specs.Joined.{IsKnown, IsIdle}
use Rattle.eco_turn.specs.Pass.{HasLeft}
use Rattle.eco_turn.specs.Turn.{turn_id, IsPassOf}
use Rattle.eco_turn.proofs.turn.Turn.join_passes.Given as goal

abbrev pub invariant-loop-pass : goal.invariant-loop-pass
invariant-loop-pass g l = record {
  table : l.seat.table_id ≡ turn_id l.self;
  empty : l.seat.me.1 ≡ [];
  idle : IsIdle l.seat.me.0;
  left : (k : ℕ) (p : _) → get_elem? l.passes.items k ≡ some p → IsPassOf g.T.Kept.fixed l.self p × HasLeft p;
  each : (k : ℕ) (p : _) → get_elem? l.fn.passes.items k ≡ some p → (get_elem? l.passes.items k ≡ some p) ⊎ IsKnown p l.seat.me.0;
}

abbrev pub decreases-loop-pass : goal.decreases-loop-pass
decreases-loop-pass g l = goal.left-loop-pass g l
