-- The JSON value that is written for an order.
use Rattle.std.specs.Prelude.{ℕ, ◌^◌, Bool, if◌then◌else◌, List, [], ◌∷◌, map, codes, Option, Some, None}
use Rattle.std.specs.List.{range_with_len}
use Rattle.std.specs.Str.{byte, is_utf8}
use Rattle.eco_common.specs.declared.geometry.Point.{Point}
use Rattle.eco_func.specs.Tables.{TruthTable, at}
use Rattle.eco_order_file.specs.Names.{Name}
use Rattle.eco_order_file.specs.Orders.{Gate, Move, Order}
use Rattle.serde_json.specs.Data.{Data, null, number, unsigned, string, array, object, no_items, item, no_members, member}
use Rattle.serde_json.specs.Find.{of_integer}
use Rattle.serde_json.specs.View.{items_of}

-- A name as a text. In place of one that is no UTF-8, which no document gives, stands 0, which no reader takes for a name.
abbrev pub name_value : Name → Data
name_value n = if is_utf8 n then string n else number (unsigned 0)

abbrev pub list_value : {A : Type 0} → (A → Data) → List A → Data
list_value value xs = array (items_of (map value xs))

abbrev pub value_or_null : {A : Type 0} → (A → Data) → Option A → Data
value_or_null value None = null
value_or_null value (Some x) = value x

abbrev pub digit : Bool → ℕ
digit b = if b then byte "1" else byte "0"

-- 0 or 1 for each row, row 0 first
abbrev pub table_text : TruthTable → List ℕ
table_text t = map (λ r. digit (at t r)) (range_with_len 0 (2 ^ t.inputs))

abbrev pub point_value : Point → Data
point_value p = array (item (number (of_integer p.x)) (item (number (of_integer p.y)) no_items))

-- ---- objects, with their fields in the order of bytes

abbrev pub gate_value : Gate → Data
gate_value g =
    object (member (codes "inputs") (list_value name_value g.inputs)
    (member (codes "name") (name_value g.name)
    (member (codes "near") (value_or_null point_value g.near)
    (member (codes "output") (name_value g.output)
    (member (codes "table") (string (table_text g.table)) no_members)))))

abbrev pub move_value : Move → Data
move_value m =
    object (member (codes "comp") (name_value m.comp)
    (member (codes "from") (value_or_null name_value m.from)
    (member (codes "pin") (name_value m.pin)
    (member (codes "to") (name_value m.to) no_members))))

abbrev pub order_value : Order → Data
order_value o =
    object (member (codes "by") (name_value o.by)
    (member (codes "gates") (list_value gate_value o.gates)
    (member (codes "moves") (list_value move_value o.moves)
    (member (codes "name") (name_value o.name)
    (member (codes "nets") (list_value name_value o.nets) no_members)))))
