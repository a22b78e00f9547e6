-- Pins put on nets (LEF/DEF 5.8, "Nets").
use Rattle.std.specs.Prelude.{ℕ, List}

-- a pin of a component and the net that it is put on, by their names' bytes
pub record NewJoint : Type 0 where
  pub comp : List ℕ
  pub pin : List ℕ
  pub net : List ℕ
