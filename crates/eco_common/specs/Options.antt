-- Values that may be absent.
use Rattle.std.specs.Prelude.{List, [], ◌∷◌, Option, Some, None}

-- the first value there is
abbrev pub first_some : {A : Type 0} → List (Option A) → Option A
first_some [] = None
first_some (None ∷ os) = first_some os
first_some (Some x ∷ os) = Some x
