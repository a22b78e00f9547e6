-- What stands twice in a list.
use Rattle.std.specs.Prelude.{Bool, List, [], ◌∷◌, Option, Some, None, if◌then◌else◌}
use Rattle.std.specs.List.{list_any}

-- the first that is the same as one before it, or as one seen before
abbrev pub first_again : {A : Type 0} → (A → A → Bool) → List A → List A → Option A
first_again same seen [] = None
first_again same seen (x ∷ xs) = if list_any (λ y. same y x) seen then Some x else first_again same (x ∷ seen) xs

-- the first that stands a second time
abbrev pub first_twice : {A : Type 0} → (A → A → Bool) → List A → Option A
first_twice same xs = first_again same [] xs
