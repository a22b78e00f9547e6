-- Lists of two.
use Rattle.std.proofs.Common.{◌≡◌, ◌≤◌, ◌<◌, ℕ, List, [], ◌∷◌, length, None, refl, arith}
use Rattle.serde_json.specs.View.{items_view}
use Rattle.serde_json.specs.declared.value.Value.{Value}
use Rattle.eco_order_file.specs.Documents.{two}

pub two_of_one : (vs : List Value) → length vs < 2 → two (items_view vs) ≡ None
two_of_one [] h = refl
two_of_one (v ∷ []) h = refl
two_of_one (v ∷ w ∷ vs) h = absurd (omega arith)

pub two_of_many : (vs : List Value) → 3 ≤ length vs → two (items_view vs) ≡ None
two_of_many [] h = refl
two_of_many (v ∷ []) h = refl
two_of_many (v ∷ w ∷ []) h = absurd (omega arith)
two_of_many (v ∷ w ∷ x ∷ vs) h = refl
