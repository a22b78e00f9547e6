-- What a seat learns from each step, and how views are split and joined.
use Rattle.std.specs.Prelude.{◌≡◌, ◌≢◌, ℕ, ◌+◌, ◌%◌, ◌^◌, List, [], ◌∷◌, ◌++◌, length, drop, Option, Some, None}
use mathlib.Core.List.{IsPrefix}
use Rattle.atomic_table.specs.Table.{Step, Me}
use Rattle.eco_turn.specs.declared.view.View.{View}
use Rattle.eco_turn.specs.declared.view.Returned.{Returned}
use Rattle.eco_turn.specs.declared.view.Stage.TheVariants.{Outside, Waiting, Inside}
use Rattle.eco_turn.specs.Entries.{entries_by}

module _ {E F : Type 0} where
  -- the seat has a ticket, whose remainder is the number found
  abbrev pub DrawsTicket : {S : Type 0} → Step S → Me S (View E F) → ℕ → Me S (View E F) → Type 0
  DrawsTicket st m found m' = (m' ≡ (record m.0 { stage = Waiting; ticket = m'.0.ticket }, m.1))
      × (m'.0.ticket % 2 ^ 64 ≡ found)

  -- the seat has neither ticket nor slot
  abbrev pub PassesOn : {S : Type 0} → Step S → Me S (View E F) → ℕ → Me S (View E F) → Type 0
  PassesOn st m found m' = m' ≡ (record m.0 { stage = Outside }, [])

  -- a split: the view of the seat that is split, and that of the new one
  abbrev pub left_view : View E F → View E F
  left_view v = record v { seats = v.seats + 1 }

  abbrev pub right_view : View E F → View E F
  right_view v = record { number = v.seats; seats = 0; stage = Outside; ticket = 0; seen = v.seen; own = []; returned = []; fixed = v.fixed }

  -- a join: the view of the seat that takes the other in, and that of the other
  abbrev pub returned_of : View E F → Returned E
  returned_of v = record { number = v.number; seen = v.seen; own = v.own }

  abbrev pub joined_view : View E F → View E F → View E F
  joined_view v w = record v { returned = returned_of w ∷ v.returned }

  abbrev pub spent_view : View E F
  spent_view = record { number = 0; seats = 0; stage = Outside; ticket = 0; seen = []; own = []; returned = []; fixed = None }

module _ {T E F : Type 0} (entries : T → List (ℕ × E)) (fixed : T → F) where
  -- the seat has the slot with the value x in it, whose list begins with what the seat had seen, and in which its own entries stand
  pub record Took (m : Me (Option T) (View E F)) (x : T) (m' : Me (Option T) (View E F)) : Type 0 where
    pub now : m' ≡ (record m.0 { stage = Inside; seen = entries x }, (0, Some x) ∷ m.1)
    pub begins : IsPrefix m.0.seen (entries x)
    pub own : entries_by m.0.number (entries x) ≡ m.0.own
    pub fixed_is : m.0.fixed ≡ Some (fixed x)

  -- where the number found is the seat's ticket, it has the slot, and else nothing changes
  abbrev pub SeesServed : Step (Option T) → Me (Option T) (View E F) → ℕ → Me (Option T) (View E F) → Type 0
  SeesServed st m found m' = (found ≢ m.0.ticket % 2 ^ 64 → m' ≡ m)
      × (found ≡ m.0.ticket % 2 ^ 64 → (x : T) × Took m x m')

module _ {T E F : Type 0} (entries : T → List (ℕ × E)) where
  -- what was added to the list is the seat's own
  abbrev pub noted_view : View E F → T → View E F
  noted_view v y = record v { seen = entries y; own = v.own ++ drop (length v.seen) (entries y) }

  -- the number found is the length of the list that the seat had found, and the list of the value in its slot is the history
  abbrev pub NotesLength : Step (Option T) → Me (Option T) (View E F) → ℕ → Me (Option T) (View E F) → Type 0
  NotesLength st m found m' = (found ≡ length m.0.seen)
      × ((y : T) → m.1 ≡ (0, Some y) ∷ [] → m' ≡ (noted_view m.0 y, m.1))
