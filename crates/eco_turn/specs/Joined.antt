-- What the view of a seat says that took others in.
use Rattle.std.specs.Prelude.{◌≡◌, ◌⊎◌, ℕ, ◌<◌}
use mathlib.Core.Option.{some}
use lib.ListN.{get_elem?}
use Rattle.eco_turn.specs.declared.view.View.{View}
use Rattle.eco_turn.specs.declared.view.Returned.{Returned}
use Rattle.eco_turn.specs.declared.view.Stage.TheVariants.{Outside}
use Rattle.eco_turn.specs.declared.pass.Pass.{Pass}
use Rattle.eco_turn.specs.Pass.{pass_number, pass_seen, pass_own}

module _ {E F : Type 0} where
  -- what the pass knew stands in the view
  abbrev pub IsKnown : Pass E F → View E F → Type 0
  IsKnown p v = ((v.number ≡ pass_number p) × (v.seen ≡ pass_seen p) × (v.own ≡ pass_own p))
      ⊎ ((k : ℕ) × (q : Returned E) × (get_elem? v.returned k ≡ some q) × (q.number ≡ pass_number p) × (q.seen ≡ pass_seen p) × (q.own ≡ pass_own p))

  abbrev pub IsIdle : View E F → Type 0
  IsIdle v = (v.stage ≡ Outside) × (0 < v.number)
