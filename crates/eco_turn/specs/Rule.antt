-- The rule of the table.
-- Word 0 is the next ticket, word 1 the ticket that is served, word 2 the length of the history. The one slot has the value.
-- Tickets are counted since the turn was made, and the words hold them modulo 2 ^ 64. The tickets that seats hold are distinct, at least `served` and below `drawn`, and as many as the numbers in that range. So a seat holds each number of the range, as `at_hand` of proofs/Tickets.antt shows.
use Rattle.std.specs.Prelude.{◌≡◌, ℕ, ◌+◌, ◌%◌, ◌^◌, ◌<◌, ◌≤◌, ◌⊎◌, List, [], map, length, slice_index, sum_by, Option, Some}
use mathlib.Core.Option.{some}
use mathlib.Core.List.{IsPrefix}
use lib.ListN.{get_elem?}
use Rattle.atomic_table.specs.Table.{State}
use Rattle.eco_turn.specs.declared.view.View.{View}
use Rattle.eco_turn.specs.declared.view.Returned.{Returned}
use Rattle.eco_turn.specs.declared.view.Stage.TheVariants.{Outside, Inside}
use Rattle.eco_turn.specs.Entries.{entries_by, Grows}
use Rattle.eco_turn.specs.View.{number_of, stage_of, ticket_count, value_count}

-- a pass that was returned: its seat has no number any more
pub record IsReturned {E : Type 0} (history : List (ℕ × E)) (numbers : List ℕ) (p : Returned E) : Type 0 where
  pub spent : get_elem? numbers p.number ≡ some 0
  pub seen : IsPrefix p.seen history
  pub own : entries_by p.number history ≡ p.own

module _ {E F : Type 0} where
  -- the view of the first seat, from which the others are split
  abbrev pub maker_view : List (ℕ × E) → F → View E F
  maker_view h f = record { number = 0; seats = 1; stage = Outside; ticket = 0; seen = h; own = []; returned = []; fixed = Some f }

  -- what holds of the seat at place j, which has the view v. The seat of the pass j stands at place j.
  pub record IsSeated (f : F) (history : List (ℕ × E)) (numbers : List ℕ) (served drawn j : ℕ) (v : View E F) : Type 0 where
    pub waits : 0 < ticket_count v → (served ≤ v.ticket) × (v.ticket < drawn)
    pub holds : 0 < value_count v → (v.ticket ≡ served) × (v.seen ≡ history)
    pub named : 0 < v.number → (v.number ≡ j) × (entries_by v.number history ≡ v.own) × (v.fixed ≡ Some f)
    pub makes : 0 < v.seats → (j ≡ 0) × (length numbers ≡ v.seats) × (v.fixed ≡ Some f)
    pub none : v.number ≡ 0 → v.stage ≡ Outside
    pub seen : IsPrefix v.seen history
    pub returns : (k : ℕ) (p : Returned E) → get_elem? v.returned k ≡ some p → IsReturned history numbers p

-- no two seats have one ticket
abbrev pub HaveOwnTickets : {E F : Type 0} → List (View E F) → Type 0
HaveOwnTickets {E} {F} vs = (i j : ℕ) (v w : View E F) → get_elem? vs i ≡ some v → get_elem? vs j ≡ some w
    → 0 < ticket_count v → 0 < ticket_count w → v.ticket ≡ w.ticket → i ≡ j

module _ {T E F : Type 0} (entries : T → List (ℕ × E)) (fixed : T → F) where
  -- the value is at home and stands for the history, or a seat has it
  abbrev pub IsHomeOrHeld : F → List (ℕ × E) → State (Option T) (View E F) → Type 0
  IsHomeOrHeld f history s = ((x : T) × (get_elem? s.homes 0 ≡ some (some (Some x))) × (entries x ≡ history) × (fixed x ≡ f))
      ⊎ ((j : ℕ) × (get_elem? (map stage_of s.views) j ≡ some Inside))

  -- the rule of a turn over the value `start`
  pub record IsRuled (start : T) (passes : ℕ) (s : State (Option T) (View E F)) : Type 0 where
    -- the history, the ticket that is served, and the next one
    pub history : List (ℕ × E)
    pub served : ℕ
    pub drawn : ℕ
    pub three : length s.words ≡ 3
    pub one : length s.homes ≡ 1
    pub ticket_is : slice_index s.words 0 ≡ drawn % 2 ^ 64
    pub serving_is : slice_index s.words 1 ≡ served % 2 ^ 64
    pub count_is : slice_index s.words 2 ≡ length history
    pub few : (length s.views ≤ passes + 1) × (passes ≤ 64)
    pub each : (j : ℕ) (v : View E F) → get_elem? s.views j ≡ some v → IsSeated (fixed start) history (map number_of s.views) served drawn j v
    pub apart : HaveOwnTickets s.views
    pub counted : served + sum_by ticket_count s.views ≡ drawn
    -- the history is the first list, with entries of passes, and a pass that isn't made yet has none
    pub grown : Grows passes (entries start) history
    pub unmade : (n : ℕ) → length s.views ≤ n → n ≤ passes → entries_by n history ≡ []
    pub lies : IsHomeOrHeld (fixed start) history s
