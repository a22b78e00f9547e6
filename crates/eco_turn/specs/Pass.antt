-- What clauses say of a pass.
use Rattle.std.specs.Prelude.{◌≡◌, ℕ, List, [], ◌∷◌, map, Contains, Some}
use Rattle.atomic_table.specs.Seated.{TableId}
use Rattle.eco_turn.specs.declared.view.View.{View}
use Rattle.eco_turn.specs.declared.view.Stage.TheVariants.{Outside}
use Rattle.eco_turn.specs.declared.pass.Pass.{Pass}
use Rattle.eco_turn.specs.Entries.{IsPass}
use Rattle.eco_turn.specs.View.{seen_in, own_in}

module _ {E F : Type 0} where
  abbrev pub pass_number : Pass E F → ℕ
  pass_number p = p.number

  -- the list that the pass saw when it last left
  abbrev pub pass_seen : Pass E F → List (ℕ × E)
  pass_seen p = seen_in p.last.value.views

  -- the entries that it had made then, in their order
  abbrev pub pass_own : Pass E F → List (ℕ × E)
  pass_own p = own_in p.last.value.views

  -- it has left whatever it entered
  abbrev pub HasLeft : Pass E F → Type 0
  HasLeft p = p.badge ≡ p.last.value

  -- the view of the pass n, which is outside
  pub record IsOutside (f : F) (n : ℕ) (v : View E F) : Type 0 where
    pub out : v.stage ≡ Outside
    pub number : v.number ≡ n
    pub alone : v.returned ≡ []
    pub fixed : v.fixed ≡ Some f

  -- when it last left, the pass had a seat of the table z, over values with the fixed part f
  pub record IsPlaced (z : TableId) (f : F) (most : ℕ) (p : Pass E F) : Type 0 where
    pub table : p.last.value.table_id ≡ z
    pub view : View E F
    pub views : p.last.value.views ≡ view ∷ []
    pub outside : IsOutside f p.number view
    pub numbers : IsPass most p.number

  -- each number from 1 to `most` is that of one of the passes
  abbrev pub AreAll : ℕ → List (Pass E F) → Type 0
  AreAll most ps = (n : ℕ) → IsPass most n → Contains (map pass_number ps) n
