-- A document says what it is the document of.
use Rattle.std.proofs.Common.{◌≡◌, ◌≤◌, ℕ, suc, ℤ, Bool, true, false, cond, List, [], ◌∷◌, length, codes, Option, Some, None, Ok, Err, nat_le, refl, sym, ap, subst, ◌∙◌, arith}
use Rattle.std.proofs.lemmas.Bool.Decides.{nat_tests}
use Rattle.std.specs.Option.{option_and_then}
use Rattle.eco_common.specs.NameBytes.{is_name, is_among}
use Rattle.eco_common.specs.declared.geometry.Point.{Point}
use Rattle.eco_func.specs.Tables.{TruthTable}
use Rattle.eco_func.specs.FunctionsFile.{table_of}
use Rattle.serde_json.specs.Data.{Data, Items, no_items, item, Members, no_members, member, number}
use Rattle.serde_json.specs.Events.{items_len}
use Rattle.serde_json.specs.Find.{get, as_i64, as_array, as_object}
use Rattle.eco_order_file.specs.Documents.{Reading, ◌>>=◌, or_fault, where_it, below, field_step, item_step, field, no_other, each, list, or_null, text, base_name, are_few, inputs, table, coordinate, point, gate, move, order, gate_fields, move_fields, order_fields}
use Rattle.eco_order_file.specs.FieldByField.{At, HasOnly, IsText, IsNameText, EachIs, IsListOf, IsOrNull, IsTableText, IsCoordinate, IsPoint, IsGateDocument, IsMoveDocument, IsOrderDocument}
use Rattle.eco_order_file.specs.Names.{Name}
use Rattle.eco_order_file.specs.Orders.{Gate, Move, Order, is_coordinate}
use Rattle.eco_order_file.proofs.Inverted.{is_null, each_long}
use Rattle.eco_order_file.proofs.ReadBack.{then, field_back}

at_back : {A : Type 0} (reads : Data → Reading A) (Is : A → Data → Type 0) (name : List ℕ) (d : Data) (x : A) → ((v : Data) (y : A) → Is y v → reads v ≡ Ok y) → At name (Is x) d → field reads name d ≡ Ok x
at_back reads Is name d x h a = field_back reads name d a.0 x a.1 (h a.0 x a.2)

-- ---- values

text_back : (d : Data) (n : Name) → IsText n d → text d ≡ Ok n
text_back d n is = ap text is

name_back : (d : Data) (n : Name) → IsNameText n d → base_name d ≡ Ok n
name_back d n is = ap base_name is.0 ∙ ap (λ b. or_fault (cond b (Some n) None)) is.1

table_back : (m : ℕ) (d : Data) (t : TruthTable) → m ≡ t.inputs → IsTableText t d → table m d ≡ Ok t
table_back m d t e is =
    ap (table m) is.1 ∙ ap or_fault (subst (λ k. table_of k is.0 ≡ Some t) (sym e) is.2)

coordinate_back : (d : Data) (z : ℤ) → IsCoordinate z d → coordinate d ≡ Ok z
coordinate_back d z is =
    ap coordinate is.1 ∙ ap (λ o. or_fault (option_and_then (where_it is_coordinate) o)) is.2 ∙ ap (λ b. or_fault (cond b (Some z) None)) is.3

point_back : (d : Data) (p : Point) → IsPoint p d → point d ≡ Ok p
point_back d p is =
    ap point is.2
    ∙ then _ p.x _ (ap (below (item_step 0)) (coordinate_back is.0 p.x is.3))
    ∙ then _ p.y _ (ap (below (item_step 1)) (coordinate_back is.1 p.y is.4))

each_back : {A : Type 0} (reads : Data → Reading A) (Is : A → Data → Type 0) → ((v : Data) (y : A) → Is y v → reads v ≡ Ok y) → (i : ℕ) (xs : List A) (ds : Items) → EachIs Is xs ds → each reads i ds ≡ Ok xs
each_back reads Is h i [] no_items e = refl
each_back reads Is h i [] (item d ds) e = absurd e
each_back reads Is h i (x ∷ xs) no_items e = absurd e
each_back reads Is h i (x ∷ xs) (item d ds) e =
    then _ x _ (ap (below (item_step i)) (h d x e.0)) ∙ then _ xs _ (each_back reads Is h (suc i) xs ds e.1)

list_back : {A : Type 0} (reads : Data → Reading A) (Is : A → Data → Type 0) → ((v : Data) (y : A) → Is y v → reads v ≡ Ok y) → (d : Data) (xs : List A) → IsListOf Is xs d → list reads d ≡ Ok xs
list_back reads Is h d xs is = ap (list reads) is.1 ∙ each_back reads Is h 0 xs is.0 is.2

few_back : (n k : ℕ) → n ≡ k → k ≤ 6 → nat_le n 6 ≡ true
few_back n k e l = grind (arith, nat_tests)

inputs_back : (d : Data) (ns : List Name) → IsListOf IsNameText ns d → length ns ≤ 6 → inputs d ≡ Ok ns
inputs_back d ns is few =
    ap inputs is.1
    ∙ ap (λ b. or_fault (cond b (Some is.0) None) >>= each base_name 0) (few_back (items_len is.0) (length ns) (each_long IsNameText ns is.0 is.2) few)
    ∙ each_back base_name IsNameText name_back 0 ns is.0 is.2

null_or_back : {A : Type 0} (reads : Data → Reading A) (Is : A → Data → Type 0) → ((v : Data) (y : A) → Is y v → (reads v ≡ Ok y) × (is_null v ≡ false)) → (d : Data) (o : Option A) → IsOrNull Is o d → or_null reads d ≡ Ok o
null_or_back reads Is h d None is = ap (or_null reads) is
null_or_back reads Is h d (Some x) is =
    let r = h d x is in
    ap (λ b. cond b (Ok None) (reads d >>= (λ y. Ok (Some y)))) r.1 ∙ then _ x _ r.0

name_not_null : (d : Data) (n : Name) → IsNameText n d → (base_name d ≡ Ok n) × (is_null d ≡ false)
name_not_null d n is = (name_back d n is, ap is_null is.0)

point_not_null : (d : Data) (p : Point) → IsPoint p d → (point d ≡ Ok p) × (is_null d ≡ false)
point_not_null d p is = (point_back d p is, ap is_null is.2)

only_back : (fields : List (List ℕ)) (ms : Members) → HasOnly fields ms → no_other (is_among fields) ms ≡ Ok tt
only_back fields no_members h = refl
only_back fields (member name d ms) h = ap (λ b. cond b (no_other (is_among fields) ms) (Err (field_step name))) h.0 ∙ only_back fields ms h.1

-- ---- objects

gate_back : (d : Data) (g : Gate) → IsGateDocument g d → gate d ≡ Ok g
gate_back d g is =
    then _ is.only.0 _ (ap (λ v. or_fault (as_object v)) is.only.1)
    ∙ then _ g.name _ (at_back text IsText (codes "name") d g.name text_back is.name)
    ∙ then _ g.inputs _ (field_back inputs (codes "inputs") d is.inputs.0 g.inputs is.inputs.1 (inputs_back is.inputs.0 g.inputs is.inputs.2 is.few))
    ∙ then _ g.table _ (field_back (table (length g.inputs)) (codes "table") d is.table.0 g.table is.table.1 (table_back (length g.inputs) is.table.0 g.table is.rows is.table.2))
    ∙ then _ g.output _ (at_back base_name IsNameText (codes "output") d g.output name_back is.output)
    ∙ then _ g.near _ (at_back (or_null point) (IsOrNull IsPoint) (codes "near") d g.near (null_or_back point IsPoint point_not_null) is.near)
    ∙ then _ tt _ (only_back gate_fields is.only.0 is.only.2)

move_back : (d : Data) (m : Move) → IsMoveDocument m d → move d ≡ Ok m
move_back d m is =
    then _ is.only.0 _ (ap (λ v. or_fault (as_object v)) is.only.1)
    ∙ then _ m.comp _ (at_back base_name IsNameText (codes "comp") d m.comp name_back is.comp)
    ∙ then _ m.pin _ (at_back base_name IsNameText (codes "pin") d m.pin name_back is.pin)
    ∙ then _ m.from _ (at_back (or_null base_name) (IsOrNull IsNameText) (codes "from") d m.from (null_or_back base_name IsNameText name_not_null) is.from)
    ∙ then _ m.to _ (at_back base_name IsNameText (codes "to") d m.to name_back is.to)
    ∙ then _ tt _ (only_back move_fields is.only.0 is.only.2)

pub order_said : (d : Data) (o : Order) → IsOrderDocument o d → order d ≡ Ok o
order_said d o is =
    then _ is.only.0 _ (ap (λ v. or_fault (as_object v)) is.only.1)
    ∙ then _ o.name _ (at_back text IsText (codes "name") d o.name text_back is.name)
    ∙ then _ o.by _ (at_back text IsText (codes "by") d o.by text_back is.by)
    ∙ then _ o.nets _ (at_back (list text) (IsListOf IsText) (codes "nets") d o.nets (list_back text IsText text_back) is.nets)
    ∙ then _ o.gates _ (at_back (list gate) (IsListOf IsGateDocument) (codes "gates") d o.gates (list_back gate IsGateDocument gate_back) is.gates)
    ∙ then _ o.moves _ (at_back (list move) (IsListOf IsMoveDocument) (codes "moves") d o.moves (list_back move IsMoveDocument move_back) is.moves)
    ∙ then _ tt _ (only_back order_fields is.only.0 is.only.2)
