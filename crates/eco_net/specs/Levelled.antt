-- What levels hold.
use Rattle.std.specs.Prelude.{ℕ, List}

-- an order of the computed nets, and the greatest depth of a gate
pub record Levelled : Type 0 where
  pub order : List ℕ
  pub depth : ℕ
