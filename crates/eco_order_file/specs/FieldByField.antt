-- The document of an order, field by field: which JSON values give which parts, in whatever order the fields stand.
use Rattle.std.specs.Prelude.{◌≡◌, ◌≤◌, ◌↔◌, ⊤, ℕ, ℤ, Bool, true, List, [], ◌∷◌, length, codes, Option, Some, None, Ok}
use Rattle.eco_common.specs.declared.geometry.Point.{Point}
use Rattle.eco_common.specs.NameBytes.{is_name, is_among}
use Rattle.eco_func.specs.Tables.{TruthTable}
use Rattle.eco_func.specs.FunctionsFile.{table_of}
use Rattle.eco_order_file.specs.declared.limits.TheConstants.{MAX_GATE_INPUTS}
use Rattle.eco_order_file.specs.Names.{Name}
use Rattle.eco_order_file.specs.Orders.{Gate, Move, Order, is_coordinate}
use Rattle.eco_order_file.specs.Documents.{order, gate_fields, move_fields, order_fields}
use Rattle.serde_json.specs.Data.{Num, Data, null, number, string, array, object, Items, no_items, item, Members, no_members, member}
use Rattle.serde_json.specs.Find.{get, as_i64}

-- the field stands, and its value is such
abbrev pub At : List ℕ → (Data → Type 0) → Data → Type 0
At name Is d = (v : Data) × (get name d ≡ Some v) × Is v

abbrev pub HasOnly : List (List ℕ) → Members → Type 0
HasOnly fields no_members = ⊤
HasOnly fields (member name d ms) = (is_among fields name ≡ true) × HasOnly fields ms

-- an object with no field but these
abbrev pub IsObjectOf : List (List ℕ) → Data → Type 0
IsObjectOf fields d = (ms : Members) × (d ≡ object ms) × HasOnly fields ms

abbrev pub IsText : Name → Data → Type 0
IsText n d = d ≡ string n

-- a name of LEF and DEF
abbrev pub IsNameText : Name → Data → Type 0
IsNameText n d = (d ≡ string n) × (is_name n ≡ true)

-- an item for each, in order
abbrev pub EachIs : {A : Type 0} → (A → Data → Type 0) → List A → Items → Type 0
EachIs Is [] no_items = ⊤
EachIs Is [] (item d ds) = ⊥
EachIs Is (x ∷ xs) no_items = ⊥
EachIs Is (x ∷ xs) (item d ds) = Is x d × EachIs Is xs ds

abbrev pub IsListOf : {A : Type 0} → (A → Data → Type 0) → List A → Data → Type 0
IsListOf Is xs d = (ds : Items) × (d ≡ array ds) × EachIs Is xs ds

-- null for none
abbrev pub IsOrNull : {A : Type 0} → (A → Data → Type 0) → Option A → Data → Type 0
IsOrNull Is None d = d ≡ null
IsOrNull Is (Some x) d = Is x d

-- a character 0 or 1 for each row, row 0 first
abbrev pub IsTableText : TruthTable → Data → Type 0
IsTableText t d = (rows : List ℕ) × (d ≡ string rows) × (table_of t.inputs rows ≡ Some t)

-- a whole number of 32 bits with sign
abbrev pub IsCoordinate : ℤ → Data → Type 0
IsCoordinate z d = (n : Num) × (d ≡ number n) × (as_i64 n ≡ Some z) × (is_coordinate z ≡ true)

abbrev pub IsPoint : Point → Data → Type 0
IsPoint p d = (x : Data) × (y : Data) × (d ≡ array (item x (item y no_items))) × IsCoordinate p.x x × IsCoordinate p.y y

pub record IsGateDocument (g : Gate) (d : Data) : Type 0 where
  pub only : IsObjectOf gate_fields d
  pub name : At (codes "name") (IsText g.name) d
  pub inputs : At (codes "inputs") (IsListOf IsNameText g.inputs) d
  pub few : length g.inputs ≤ MAX_GATE_INPUTS
  pub table : At (codes "table") (IsTableText g.table) d
  pub rows : length g.inputs ≡ g.table.inputs
  pub output : At (codes "output") (IsNameText g.output) d
  pub near : At (codes "near") (IsOrNull IsPoint g.near) d

pub record IsMoveDocument (m : Move) (d : Data) : Type 0 where
  pub only : IsObjectOf move_fields d
  pub comp : At (codes "comp") (IsNameText m.comp) d
  pub pin : At (codes "pin") (IsNameText m.pin) d
  pub from : At (codes "from") (IsOrNull IsNameText m.from) d
  pub to : At (codes "to") (IsNameText m.to) d

pub record IsOrderDocument (o : Order) (d : Data) : Type 0 where
  pub only : IsObjectOf order_fields d
  pub name : At (codes "name") (IsText o.name) d
  pub by : At (codes "by") (IsText o.by) d
  pub nets : At (codes "nets") (IsListOf IsText o.nets) d
  pub gates : At (codes "gates") (IsListOf IsGateDocument o.gates) d
  pub moves : At (codes "moves") (IsListOf IsMoveDocument o.moves) d

-- A JSON value says an order exactly where it is that order's document.
abbrev pub SaysExactly : Type 0
SaysExactly = (d : Data) (o : Order) → (order d ≡ Ok o) ↔ IsOrderDocument o d
