-- What a view says.
use Rattle.std.specs.Prelude.{ℕ, List, [], ◌∷◌}
use Rattle.eco_turn.specs.declared.view.View.{View}
use Rattle.eco_turn.specs.declared.view.Stage.{Stage}
use Rattle.eco_turn.specs.declared.view.Stage.TheVariants.{Outside, Waiting, Inside}

-- how many tickets a seat has
abbrev pub tickets : Stage → ℕ
tickets Outside = 0
tickets Waiting = 1
tickets Inside = 1

-- how many values a seat has
abbrev pub values : Stage → ℕ
values Outside = 0
values Waiting = 0
values Inside = 1

module _ {E F : Type 0} where
  abbrev pub number_of : View E F → ℕ
  number_of v = v.number

  abbrev pub stage_of : View E F → Stage
  stage_of v = v.stage

  abbrev pub ticket_count : View E F → ℕ
  ticket_count v = tickets v.stage

  abbrev pub value_count : View E F → ℕ
  value_count v = values v.stage

  -- what the one view of a pass says
  abbrev pub seen_in : List (View E F) → List (ℕ × E)
  seen_in [] = []
  seen_in (v ∷ vs) = v.seen

  abbrev pub own_in : List (View E F) → List (ℕ × E)
  own_in [] = []
  own_in (v ∷ vs) = v.own
