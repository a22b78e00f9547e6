-- Orders as JSON documents (RFC 8259), in a form of this project's own:
--
--   {"name": "inv1", "by": "ann", "nets": ["m1"],
--    "gates": [{"name": "g1", "inputs": ["n1"], "table": "10", "output": "m1", "near": null}],
--    "moves": [{"comp": "r1", "pin": "D", "from": "n2", "to": "m1"}]}
use Rattle.std.specs.Prelude.{ℕ, suc, ℤ, Bool, ◌||◌, nat_le, if◌then◌else◌, List, [], ◌∷◌, ◌++◌, length, codes, decimal, Option, Some, None, is_some, option_and_then, Result, Ok, Err}
use Rattle.std.specs.Str.{byte}
use Rattle.eco_common.specs.declared.geometry.Point.{Point}
use Rattle.eco_common.specs.NameBytes.{is_name, is_among}
use Rattle.eco_func.specs.Tables.{TruthTable}
use Rattle.eco_func.specs.FunctionsFile.{table_of}
use Rattle.eco_order_file.specs.declared.limits.TheConstants.{MAX_GATE_INPUTS}
use Rattle.eco_order_file.specs.Names.{Name}
use Rattle.eco_order_file.specs.Orders.{Gate, Move, Order, is_coordinate}
use Rattle.serde_json.specs.Data.{Data, Items, no_items, item, Members, no_members, member}
use Rattle.serde_json.specs.Events.{items_len}
use Rattle.serde_json.specs.Find.{get, as_null, as_number, as_str, as_array, as_object, as_i64}

-- ---- readings

-- A value, or the path that leads to the first fault: nothing where the whole is at fault, else steps like .gates and [0].
abbrev pub Reading : Type 0 → Type 0
Reading A = Result A (List ℕ)

-- what follows a reading without a fault
infixl 10 ◌>>=◌
abbrev pub ◌>>=◌ : {A B : Type 0} → Reading A → (A → Reading B) → Reading B
Ok x >>= f = f x
Err path >>= f = Err path

abbrev pub or_fault : {A : Type 0} → Option A → Reading A
or_fault None = Err []
or_fault (Some x) = Ok x

-- the value where it passes the test
abbrev pub where_it : {A : Type 0} → (A → Bool) → A → Option A
where_it test x = if test x then Some x else None

-- what is read a step further on
abbrev pub below : {A : Type 0} → List ℕ → Reading A → Reading A
below step (Ok x) = Ok x
below step (Err path) = Err (step ++ path)

abbrev pub field_step : List ℕ → List ℕ
field_step name = byte "." ∷ name

abbrev pub item_step : ℕ → List ℕ
item_step i = (byte "[" ∷ decimal i) ++ byte "]" ∷ []

-- a field, which has to stand
abbrev pub field : {A : Type 0} → (Data → Reading A) → List ℕ → Data → Reading A
field reads name d = below (field_step name) (or_fault (get name d) >>= reads)

-- no field but those of the object. The names of a value's fields ascend by bytes
abbrev pub no_other : (List ℕ → Bool) → Members → Reading (Unit {0})
no_other is_field no_members = Ok tt
no_other is_field (member name d ms) = if is_field name then no_other is_field ms else Err (field_step name)

-- a value for each item, from the front
abbrev pub each : {A : Type 0} → (Data → Reading A) → ℕ → Items → Reading (List A)
each reads i no_items = Ok []
each reads i (item d ds) = below (item_step i) (reads d) >>= (λ x. each reads (suc i) ds >>= (λ xs. Ok (x ∷ xs)))

abbrev pub list : {A : Type 0} → (Data → Reading A) → Data → Reading (List A)
list reads d = or_fault (as_array d) >>= each reads 0

-- null, or a value
abbrev pub or_null : {A : Type 0} → (Data → Reading A) → Data → Reading (Option A)
or_null reads d = if is_some (as_null d) then Ok None else (reads d >>= (λ x. Ok (Some x)))

-- ---- values

abbrev pub text : Data → Reading Name
text d = or_fault (as_str d)

-- a name of LEF and DEF
abbrev pub base_name : Data → Reading Name
base_name d = or_fault (option_and_then (where_it is_name) (as_str d))

abbrev pub are_few : Items → Bool
are_few ds = nat_le (items_len ds) MAX_GATE_INPUTS

-- the nets at a gate's inputs: six at most
abbrev pub inputs : Data → Reading (List Name)
inputs d = or_fault (option_and_then (where_it are_few) (as_array d)) >>= each base_name 0

-- 2 ^ m characters 0 and 1 for m inputs, row 0 first
abbrev pub table : ℕ → Data → Reading TruthTable
table m d = or_fault (option_and_then (table_of m) (as_str d))

-- a whole number of 32 bits with sign
abbrev pub coordinate : Data → Reading ℤ
coordinate d = or_fault (option_and_then (where_it is_coordinate) (option_and_then as_i64 (as_number d)))

abbrev pub two : Items → Option (Data × Data)
two no_items = None
two (item d no_items) = None
two (item d (item e no_items)) = Some (d, e)
two (item d (item e (item f ds))) = None

-- a list of two coordinates
abbrev pub point : Data → Reading Point
point d =
    or_fault (option_and_then two (as_array d)) >>= (λ p.
    below (item_step 0) (coordinate p.0) >>= (λ x.
    below (item_step 1) (coordinate p.1) >>= (λ y.
    Ok (record { x = x; y = y }))))

-- ---- objects: the fields in this order, each whole before the next, and then any other field

abbrev pub gate_fields : List (List ℕ)
gate_fields = codes "name" ∷ codes "inputs" ∷ codes "table" ∷ codes "output" ∷ codes "near" ∷ []

abbrev pub gate : Data → Reading Gate
gate d =
    or_fault (as_object d) >>= (λ ms.
    field text (codes "name") d >>= (λ name.
    field inputs (codes "inputs") d >>= (λ nets.
    field (table (length nets)) (codes "table") d >>= (λ rows.
    field base_name (codes "output") d >>= (λ output.
    field (or_null point) (codes "near") d >>= (λ near.
    no_other (is_among gate_fields) ms >>= (λ none.
    Ok (record { name = name; table = rows; inputs = nets; output = output; near = near }))))))))

abbrev pub move_fields : List (List ℕ)
move_fields = codes "comp" ∷ codes "pin" ∷ codes "from" ∷ codes "to" ∷ []

abbrev pub move : Data → Reading Move
move d =
    or_fault (as_object d) >>= (λ ms.
    field base_name (codes "comp") d >>= (λ comp.
    field base_name (codes "pin") d >>= (λ pin.
    field (or_null base_name) (codes "from") d >>= (λ from.
    field base_name (codes "to") d >>= (λ to.
    no_other (is_among move_fields) ms >>= (λ none.
    Ok (record { comp = comp; pin = pin; from = from; to = to })))))))

abbrev pub order_fields : List (List ℕ)
order_fields = codes "name" ∷ codes "by" ∷ codes "nets" ∷ codes "gates" ∷ codes "moves" ∷ []

-- the order that a JSON value says, or the path to its first fault
abbrev pub order : Data → Reading Order
order d =
    or_fault (as_object d) >>= (λ ms.
    field text (codes "name") d >>= (λ name.
    field text (codes "by") d >>= (λ by.
    field (list text) (codes "nets") d >>= (λ nets.
    field (list gate) (codes "gates") d >>= (λ gates.
    field (list move) (codes "moves") d >>= (λ moves.
    no_other (is_among order_fields) ms >>= (λ none.
    Ok (record { name = name; by = by; nets = nets; gates = gates; moves = moves }))))))))
