-- The functions file: a TOML document with a table per master.
--
--   [NAND2]
--   inputs = ["A", "B"]
--   outputs = { Y = "1110", N = "A & B" }
use Rattle.std.specs.Prelude.{◌≡◌, ℕ, ◌+◌, ◌^◌, ◌<◌, slice_index, Bool, true, not, ◌&&◌, ◌||◌, ◌==◌, nat_le, if◌then◌else◌, List, [], ◌∷◌, map, length, codes, Option, Some, None, option_map, option_and_then, Result, Ok, Err}
use Rattle.std.specs.List.{list_all, list_any, find}
use Rattle.std.specs.List.Sorted.{IsStrictlySortedBy}
use Rattle.std.specs.Ordering.{nat_cmp}
use Rattle.std.specs.Cmp.Lexicographic.{slice_cmp}
use Rattle.std.specs.Str.{IsUtf8, bytes_eq}
use Rattle.eco_common.specs.declared.limits.TheConstants.{MAX_INPUTS, MAX_OUTPUTS}
use Rattle.eco_common.specs.declared.limits.TheConstants.{MAX_MASTERS}
use Rattle.toml.specs.Data.{Data, Items, no_items, item, Members, no_members, member, get, as_str, as_array, as_table}
use Rattle.toml.specs.Parse.{parse_document}
use Rattle.eco_func.specs.declared.output.OutputFn.{OutputFn}
use Rattle.eco_func.specs.declared.fault.FuncFault.{FuncFault}
use Rattle.eco_func.specs.declared.fault.FuncFault.TheVariants.{BadToml, BadField, TooManyInputs, BadTable, BadExpression, UnknownInput, TooManyMasters, Memory}
use Rattle.eco_func.specs.Tables.{TruthTable, row, at}
use Rattle.eco_func.specs.Masters.{MasterTables, all_differ}
use Rattle.eco_func.specs.Expressions.{Expression, expression_in, table_by, first_unknown}

-- what stands after a reading that has no fault
infixl 10 ◌>>=◌
abbrev pub ◌>>=◌ : {A B : Type 0} → Result A FuncFault → (A → Result B FuncFault) → Result B FuncFault
Ok x >>= f = f x
Err e >>= f = Err e

abbrev pub or_fault : {A : Type 0} → FuncFault → Option A → Result A FuncFault
or_fault e None = Err e
or_fault e (Some x) = Ok x

-- a value after those of the rest
abbrev pub and_more : {A : Type 0} → A → Result (List A) FuncFault → Result (List A) FuncFault
and_more x rest = rest >>= (λ xs. Ok (x ∷ xs))

-- ---- tables

-- A character 0 or 1.
abbrev pub is_bit : ℕ → Bool
is_bit c = c == 48 || c == 49

abbrev pub is_one : ℕ → Bool
is_one c = c == 49

-- The table that a text writes: 2 ^ m characters 0 and 1 for m inputs, row 0 first.
abbrev pub table_of : ℕ → List ℕ → Option TruthTable
table_of m text =
    if length text == 2 ^ m && list_all is_bit text
    then Some (record { inputs = m; bits = row (map is_one text) })
    else None

-- The character at each place of a table's text is the value at that row.
abbrev pub CharactersAreRows : Type 0
CharactersAreRows =
    (m : ℕ) (text : List ℕ) (t : TruthTable) → table_of m text ≡ Some t
    → (t.inputs ≡ m) × (length text ≡ 2 ^ m) × ((r : ℕ) → r < 2 ^ m → slice_index text r ≡ (if at t r then 49 else 48))

-- ---- a master's fields

-- The texts of a list that has nothing but texts.
abbrev pub texts_of : Items → Option (List (List ℕ))
texts_of no_items = Some []
texts_of (item d ds) = option_and_then (λ text. option_map (λ more. text ∷ more) (texts_of ds)) (as_str d)

-- The field `inputs`: distinct texts, six at most.
abbrev pub counted : List ℕ → List (List ℕ) → Result (List (List ℕ)) FuncFault
counted master inputs = if nat_le (length inputs) MAX_INPUTS then Ok inputs else Err (TooManyInputs master)

abbrev pub distinct : List ℕ → List (List ℕ) → Result (List (List ℕ)) FuncFault
distinct master inputs = if all_differ inputs then counted master inputs else Err (BadField master (codes "inputs"))

abbrev pub inputs_of : List ℕ → Data → Result (List (List ℕ)) FuncFault
inputs_of master d = or_fault (BadField master (codes "inputs")) (option_and_then texts_of (option_and_then as_array (get (codes "inputs") d))) >>= distinct master

-- ---- outputs

abbrev pub known : List ℕ → List ℕ → List (List ℕ) → Expression → Option (List ℕ) → Result TruthTable FuncFault
known master pin inputs e None = Ok (table_by inputs e)
known master pin inputs e (Some name) = Err (UnknownInput master pin name)

abbrev pub expressed : List ℕ → List ℕ → List (List ℕ) → Result Expression ℕ → Result TruthTable FuncFault
expressed master pin inputs (Ok e) = known master pin inputs e (first_unknown inputs e)
expressed master pin inputs (Err place) = Err (BadExpression master pin place)

-- A text of only 0 and 1 is a table, and any other an expression.
abbrev pub output_table : List ℕ → List ℕ → List (List ℕ) → List ℕ → Result TruthTable FuncFault
output_table master pin inputs text =
    if list_all is_bit text then or_fault (BadTable master pin) (table_of (length inputs) text)
    else expressed master pin inputs (expression_in text)

abbrev pub output_of : List ℕ → List ℕ → List (List ℕ) → Data → Result TruthTable FuncFault
output_of master pin inputs d = or_fault (BadField master (codes "outputs")) (as_str d) >>= output_table master pin inputs

-- Outputs, in the order of their pins' bytes.
abbrev pub outputs_of : List ℕ → List (List ℕ) → Members → Result (List OutputFn) FuncFault
outputs_of master inputs no_members = Ok []
outputs_of master inputs (member pin d os) =
    output_of master pin inputs d >>= (λ table. and_more (record { pin = pin; table = table }) (outputs_of master inputs os))

abbrev pub member_count : Members → ℕ
member_count no_members = 0
member_count (member k d ms) = member_count ms + 1

abbrev pub no_key_among : List (List ℕ) → Members → Bool
no_key_among names no_members = true
no_key_among names (member k d ms) = not (list_any (λ name. bytes_eq name k) names) && no_key_among names ms

-- One to eight pins, none of which is an input.
abbrev pub may_be_outputs : List (List ℕ) → Members → Bool
may_be_outputs inputs pins = nat_le 1 (member_count pins) && nat_le (member_count pins) MAX_OUTPUTS && no_key_among inputs pins

abbrev pub output_pins : List ℕ → List (List ℕ) → Members → Result Members FuncFault
output_pins master inputs pins = if may_be_outputs inputs pins then Ok pins else Err (BadField master (codes "outputs"))

abbrev pub outputs_in : List ℕ → Data → List (List ℕ) → Result (List OutputFn) FuncFault
outputs_in master d inputs =
    or_fault (BadField master (codes "outputs")) (option_and_then as_table (get (codes "outputs") d))
    >>= output_pins master inputs >>= outputs_of master inputs

-- ---- masters

abbrev pub is_master_field : List ℕ → Bool
is_master_field k = bytes_eq k (codes "inputs") || bytes_eq k (codes "outputs")

-- no field but these two, or the first by bytes
abbrev pub no_other : List ℕ → Members → Result (Unit {0}) FuncFault
no_other master no_members = Ok tt
no_other master (member k d ms) = if is_master_field k then no_other master ms else Err (BadField master k)

-- A master is a table with the fields `inputs` and `outputs`, and no other.
abbrev pub master_in : List ℕ → Data → Members → Result MasterTables FuncFault
master_in name d fields =
    inputs_of name d >>= (λ inputs. outputs_in name d inputs >>= (λ outputs. no_other name fields
    >>= (λ none. Ok (record { name = name; inputs = inputs; outputs = outputs }))))

abbrev pub master_of : List ℕ → Data → Result MasterTables FuncFault
master_of name d = or_fault (BadField name (codes "inputs")) (as_table d) >>= master_in name d

-- All masters, in the order of their names' bytes.
abbrev pub masters_of : Members → Result (List MasterTables) FuncFault
masters_of no_members = Ok []
masters_of (member name d ms) = master_of name d >>= (λ m. and_more m (masters_of ms))

-- At most 16,384 masters.
abbrev pub functions_of : Members → Result (List MasterTables) FuncFault
functions_of ms = if nat_le (member_count ms) MAX_MASTERS then masters_of ms else Err (TooManyMasters (member_count ms))

-- Names ascend by their bytes, so that none stands twice.
abbrev pub IsByName : List MasterTables → Type 0
IsByName functions = IsStrictlySortedBy (slice_cmp nat_cmp) (map (λ m. m.name) functions)

-- It is this fault, or out of memory.
abbrev pub Blames : FuncFault → FuncFault → Type 0
Blames said Memory = Unit {0}
Blames said e = e ≡ said

-- The reading has this value, or this fault; out of memory may be returned at any time.
abbrev pub GivesValue : {A B : Type 0} → (B → A) → Result A FuncFault → Result B FuncFault → Type 0
GivesValue view said (Ok x) = said ≡ Ok (view x)
GivesValue view said (Err Memory) = Unit {0}
GivesValue view said (Err e) = said ≡ Err e

-- The text is no TOML document, or its document has these functions, or this first fault.
abbrev pub ReadsFunctions : List ℕ → Result (List MasterTables) FuncFault → Type 0
ReadsFunctions text (Err Memory) = Unit {0}
ReadsFunctions text (Err BadToml) = IsUtf8 text → parse_document text ≡ None
ReadsFunctions text r = (document : Members) × IsUtf8 text × (parse_document text ≡ Some document) × (functions_of document ≡ r)

-- The master of a name.
abbrev pub find_master : List ℕ → List MasterTables → Option MasterTables
find_master name functions = find (λ m. bytes_eq m.name name) functions
