-- The depths of a listing's gates, by number.
use Rattle.std.specs.Prelude.{◌≡◌, ℕ, ◌+◌, ◌<◌, ◌≤◌, max, List, [], ◌∷◌, length, Option, Some, None, slice_get, slice_index}
use Rattle.eco_net.specs.Listing.{Listing}
use Rattle.eco_net.specs.Gates.{GatePin, computed_by, inputs_at}

abbrev pub depth_at : List ℕ → Option ℕ → ℕ
depth_at ds None = 0
depth_at ds (Some n) = slice_index ds n

-- the greatest depth of these nets
abbrev pub deepest : List ℕ → List (Option ℕ) → ℕ
deepest ds [] = 0
deepest ds (j ∷ js) = max (depth_at ds j) (deepest ds js)

-- one more than the greatest depth of the nets that a gate reads
abbrev pub gate_depth : Listing → List ℕ → ℕ → ℕ
gate_depth L ds c = deepest ds (inputs_at L c) + 1

-- the depth of each computed net, which is that of the gate that drives it, and 0 at other nets
pub record AreDepths (L : Listing) (ds : List ℕ) : Type 0 where
  pub sized : length ds ≡ length L.nets
  pub others : (n : ℕ) → n < length L.nets → computed_by L n ≡ None → slice_get ds n ≡ Some 0
  pub computed : (n : ℕ) (g : GatePin) → computed_by L n ≡ Some g → slice_get ds n ≡ Some (gate_depth L ds g.0.0)
  pub few : (n d : ℕ) → slice_get ds n ≡ Some d → d ≤ length L.nets
