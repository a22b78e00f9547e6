-- What a reader of one value gives, beside what the value says.
use Rattle.std.specs.Prelude.{◌≡◌, ℕ, Bool, List, ◌++◌, Result, Ok, Err}
use Rattle.std.specs.Borrow.{Bor}
use Rattle.std.specs.List.{list_any}
use Rattle.std.specs.Str.{bytes_eq}
use Rattle.eco_order_file.specs.declared.fault.FieldFault.{FieldFault}
use Rattle.eco_order_file.specs.declared.fault.FieldFault.TheVariants.{Bad, Memory}
use Rattle.eco_order_file.specs.Documents.{Reading}

-- The reading has this value, or this path; out of memory may come with any.
abbrev pub Gives : {A B : Type 0} → (B → A) → Reading A → Result B FieldFault → Type 0
Gives view said (Ok x) = said ≡ Ok (view x)
Gives view said (Err (Bad path)) = said ≡ Err path
Gives view said (Err Memory) = Unit {0}

-- the fault, seen from a step before; out of memory may come with any
abbrev pub IsBelow : List ℕ → FieldFault → FieldFault → Type 0
IsBelow step (Bad path) (Bad whole) = whole ≡ step ++ path
IsBelow step Memory (Bad whole) = ⊥
IsBelow step fault Memory = Unit {0}

abbrev pub IsBad : List ℕ → FieldFault → Type 0
IsBad path (Bad whole) = whole ≡ path
IsBad path Memory = Unit {0}

-- the name is one of these texts
abbrev pub is_one_of : List (Bor (List ℕ)) → List ℕ → Bool
is_one_of texts name = list_any (λ t. bytes_eq t.now name) texts
