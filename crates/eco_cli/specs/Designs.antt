-- The design of a DEF text.
use Rattle.std.specs.Prelude.{◌≡◌, ℕ, List, Ok}
use Rattle.eco_def.specs.Design.{Design}
use Rattle.eco_def.specs.Grammar.{design_of}
use Rattle.eco_def.specs.Limits.{WithinLimits}

-- the text has this design, within the limits
pub record HasDesign (text : List ℕ) (d : Design) : Type 0 where
  pub read : design_of text ≡ Ok d
  pub limits : WithinLimits d
