-- What clauses say of a turn, and of a pass of it.
use Rattle.std.specs.Prelude.{◌≡◌, ℕ, ◌+◌, ◌<◌, List, [], length, slice_index_or}
use Rattle.atomic_table.specs.Seated.{TableId}
use Rattle.eco_turn.specs.declared.pass.Pass.{Pass}
use Rattle.eco_turn.specs.declared.turn.Turn.{Turn}
use Rattle.eco_turn.specs.Pass.{IsPlaced, HasLeft, pass_number, pass_seen, pass_own}

module _ {T E F : Type 0} where
  abbrev pub turn_id : Turn T E F → TableId
  turn_id t = t.table.shared.table_id

  -- how many passes it has
  abbrev pub turn_passes : Turn T E F → ℕ
  turn_passes t = t.table.shared.key.passes

  -- the value that it was made of
  abbrev pub turn_start : Turn T E F → T
  turn_start t = t.table.shared.key.first.value

  -- the pass is one of the turn, outside or inside
  abbrev pub IsPassOf : (T → F) → Turn T E F → Pass E F → Type 0
  IsPassOf fixed t p = IsPlaced (turn_id t) (fixed (turn_start t)) (turn_passes t) p

  -- the pass n of a new turn over the value x
  pub record IsNew (entries : T → List (ℕ × E)) (fixed : T → F) (t : Turn T E F) (x : T) (n : ℕ) (p : Pass E F) : Type 0 where
    pub of : IsPassOf fixed t p
    pub left : HasLeft p
    pub number : pass_number p ≡ n
    pub seen : pass_seen p ≡ entries x
    pub own : pass_own p ≡ []

  -- the passes of a new turn over the value x, in the order of their numbers
  abbrev pub AreNew : (T → List (ℕ × E)) → (T → F) → Turn T E F → T → List (Pass E F) → Type 0
  AreNew entries fixed t x ps = (k : ℕ) (d : Pass E F) → k < length ps → IsNew entries fixed t x (k + 1) (slice_index_or ps k d)
