-- What clauses say of a value that a pass has.
use Rattle.std.specs.Prelude.{◌≡◌, ℕ, List, [], ◌∷◌, Some, None}
use Rattle.eco_turn.specs.declared.view.Stage.TheVariants.{Inside}
use Rattle.eco_turn.specs.declared.pass.Pass.{Pass}
use Rattle.eco_turn.specs.declared.turn.Turn.{Turn}
use Rattle.eco_turn.specs.declared.held.Held.{Held}
use Rattle.eco_turn.specs.Pass.{pass_own}
use Rattle.eco_turn.specs.Turn.{turn_id, turn_start}

module _ {T E F : Type 0} where
  -- the value as it is now
  abbrev pub held_value : Held T E F → T
  held_value h = h.value

  abbrev pub held_turn : Held T E F → Turn T E F
  held_turn h = h.turn.now

  -- the list of the value, as it was found
  abbrev pub found_entries : Held T E F → List (ℕ × E)
  found_entries h = h.seat.me.0.seen

  -- the value is with this pass
  pub record IsInside (fixed : T → F) (h : Held T E F) (p : Pass E F) : Type 0 where
    pub seat : h.seat.table_id ≡ turn_id (held_turn h)
    pub empty : h.seat.me.1 ≡ (0, None) ∷ []
    pub stage : h.seat.me.0.stage ≡ Inside
    pub number : h.seat.me.0.number ≡ p.number
    pub own : h.seat.me.0.own ≡ pass_own p
    pub alone : h.seat.me.0.returned ≡ []
    pub fixed_is : h.seat.me.0.fixed ≡ Some (fixed (turn_start (held_turn h)))
