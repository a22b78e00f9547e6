-- What a reading without a fault was read from.
use Rattle.std.proofs.Common.{◌≡◌, ◌≤◌, is_some, ℕ, suc, ◌^◌, ◌&&◌, ◌==◌, ℤ, Bool, true, false, cond, map, List, [], ◌∷◌, ◌++◌, length, codes, Option, Some, None, Result, Ok, Err, nat_le, refl, sym, ap, subst, ◌∙◌, arith, true≢false}
use Rattle.std.proofs.lemmas.Bool.Decides.{nat_tests}
use Rattle.std.specs.List.{list_all}
use Rattle.std.specs.Option.{option_and_then}
use Rattle.eco_common.specs.NameBytes.{is_name, is_among}
use Rattle.eco_common.specs.declared.geometry.Point.{Point}
use Rattle.eco_func.specs.Tables.{TruthTable, row}
use Rattle.eco_func.specs.FunctionsFile.{table_of, is_bit, is_one}
use Rattle.serde_json.specs.Data.{Num, Data, null, boolean, number, string, array, object, Items, no_items, item, Members, no_members, member}
use Rattle.serde_json.specs.Events.{items_len}
use Rattle.serde_json.specs.Find.{get, as_str, as_i64, as_number, as_array, as_object, as_null}
use Rattle.eco_order_file.specs.Documents.{Reading, ◌>>=◌, or_fault, where_it, below, field_step, item_step, field, no_other, each, list, or_null, text, base_name, are_few, inputs, table, coordinate, two, point, gate, move, order, gate_fields, move_fields, order_fields}
use Rattle.eco_order_file.specs.FieldByField.{At, HasOnly, IsObjectOf, IsText, IsNameText, EachIs, IsListOf, IsOrNull, IsTableText, IsCoordinate, IsPoint, IsGateDocument, IsMoveDocument, IsOrderDocument}
use Rattle.eco_order_file.specs.Names.{Name}
use Rattle.eco_order_file.specs.Orders.{Gate, Move, Order, is_coordinate}

-- ---- readings

pub err_ok : {A : Type 0} {p : List ℕ} {x : A} → Err p ≡ Ok x → ⊥
err_ok e = cc

abbrev fine : {A : Type 0} → A → Reading A
fine x = Ok x

pub same_ok : {A : Type 0} {x y : A} → fine x ≡ fine y → x ≡ y
same_ok e = cc

pub none_some : {A : Type 0} {x : A} → None ≡ Some x → ⊥
none_some e = cc

pub same_some : {A : Type 0} {x y : A} → Some x ≡ Some y → x ≡ y
same_some e = cc

bind_ok : {A B : Type 0} (r : Reading A) (f : A → Reading B) (y : B) → (r >>= f) ≡ Ok y → (x : A) × (r ≡ Ok x) × (f x ≡ Ok y)
bind_ok (Ok x) f y e = (x, refl, e)
bind_ok (Err p) f y e = absurd (err_ok e)

below_ok : {A : Type 0} (step : List ℕ) (r : Reading A) (x : A) → below step r ≡ Ok x → r ≡ Ok x
below_ok step (Ok y) x e = e
below_ok step (Err p) x e = absurd (err_ok e)

or_fault_ok : {A : Type 0} (o : Option A) (x : A) → or_fault o ≡ Ok x → o ≡ Some x
or_fault_ok None x e = absurd (err_ok e)
or_fault_ok (Some y) x e = ap Some (same_ok e)

field_ok : {A : Type 0} (reads : Data → Reading A) (name : List ℕ) (d : Data) (x : A) → field reads name d ≡ Ok x → (v : Data) × (get name d ≡ Some v) × (reads v ≡ Ok x)
field_ok reads name d x e =
    let b = bind_ok (or_fault (get name d)) reads x (below_ok (field_step name) _ x e) in
    (b.0, or_fault_ok (get name d) b.0 b.1, b.2)

-- a field whose readings are such
at_ok : {A : Type 0} (reads : Data → Reading A) (Is : A → Data → Type 0) (name : List ℕ) (d : Data) (x : A) → ((v : Data) (y : A) → reads v ≡ Ok y → Is y v) → field reads name d ≡ Ok x → At name (Is x) d
at_ok reads Is name d x h e = let f = field_ok reads name d x e in (f.0, f.1, h f.0 x f.2)

where_ok : {A : Type 0} (test : A → Bool) (y x : A) → where_it test y ≡ Some x → (y ≡ x) × (test x ≡ true)
where_ok {A = A} test y x e = go (test y) refl e
  where
    go : (b : Bool) → test y ≡ b → cond b (Some y) None ≡ Some x → (y ≡ x) × (test x ≡ true)
    go true t s = (same_some s, ap test (sym (same_some s)) ∙ t)
    go false t s = absurd (none_some s)

-- ---- values

object_is : (d : Data) (ms : Members) → as_object d ≡ Some ms → d ≡ object ms
object_is null ms e = absurd (none_some e)
object_is (boolean b) ms e = absurd (none_some e)
object_is (number n) ms e = absurd (none_some e)
object_is (string s) ms e = absurd (none_some e)
object_is (array ds) ms e = absurd (none_some e)
object_is (object es) ms e = ap object (same_some e)

array_is : (d : Data) (ds : Items) → as_array d ≡ Some ds → d ≡ array ds
array_is null ms e = absurd (none_some e)
array_is (boolean b) ms e = absurd (none_some e)
array_is (number n) ms e = absurd (none_some e)
array_is (string s) ms e = absurd (none_some e)
array_is (array ds) ms e = ap array (same_some e)
array_is (object es) ms e = absurd (none_some e)

text_is : (d : Data) (s : List ℕ) → as_str d ≡ Some s → d ≡ string s
text_is null ms e = absurd (none_some e)
text_is (boolean b) ms e = absurd (none_some e)
text_is (number n) ms e = absurd (none_some e)
text_is (string s) ms e = ap string (same_some e)
text_is (array ds) ms e = absurd (none_some e)
text_is (object es) ms e = absurd (none_some e)

number_is : (d : Data) (n : Num) → as_number d ≡ Some n → d ≡ number n
number_is null ms e = absurd (none_some e)
number_is (boolean b) ms e = absurd (none_some e)
number_is (number n) ms e = ap number (same_some e)
number_is (string s) ms e = absurd (none_some e)
number_is (array ds) ms e = absurd (none_some e)
number_is (object es) ms e = absurd (none_some e)

then_some : {A B : Type 0} (f : A → Option B) (o : Option A) (y : B) → option_and_then f o ≡ Some y → (x : A) × (o ≡ Some x) × (f x ≡ Some y)
then_some f None y e = absurd (none_some e)
then_some f (Some x) y e = (x, refl, e)

text_ok : (d : Data) (n : Name) → text d ≡ Ok n → IsText n d
text_ok d n e = text_is d n (or_fault_ok (as_str d) n e)

base_name_ok : (d : Data) (n : Name) → base_name d ≡ Ok n → IsNameText n d
base_name_ok d n e =
    let t = then_some (where_it is_name) (as_str d) n (or_fault_ok _ n e) in
    let w = where_ok is_name t.0 n t.2 in
    (text_is d n (t.1 ∙ ap Some w.0), w.1)

table_ok : (m : ℕ) (d : Data) (t : TruthTable) → table m d ≡ Ok t → (rows : List ℕ) × (d ≡ string rows) × (table_of m rows ≡ Some t)
table_ok m d t e =
    let r = then_some (table_of m) (as_str d) t (or_fault_ok _ t e) in
    (r.0, text_is d r.0 r.1, r.2)

-- a text of rows gives a table of as many inputs
table_rows : (m : ℕ) (rows : List ℕ) (t : TruthTable) → table_of m rows ≡ Some t → m ≡ t.inputs
table_rows m rows t e = go (length rows == 2 ^ m && list_all is_bit rows) e
  where
    go : (b : Bool) → cond b (Some (record { inputs = m; bits = row (map is_one rows) })) None ≡ Some t → m ≡ t.inputs
    go true s = ap (λ (q : TruthTable). q.inputs) (same_some s)
    go false s = absurd (none_some s)

coordinate_ok : (d : Data) (z : ℤ) → coordinate d ≡ Ok z → IsCoordinate z d
coordinate_ok d z e =
    let t = then_some (where_it is_coordinate) (option_and_then as_i64 (as_number d)) z (or_fault_ok _ z e) in
    let w = where_ok is_coordinate t.0 z t.2 in
    let n = then_some as_i64 (as_number d) t.0 t.1 in
    (n.0, number_is d n.0 n.1, n.2 ∙ ap Some w.0, w.1)

two_is : (ds : Items) (p : Data × Data) → two ds ≡ Some p → ds ≡ item p.0 (item p.1 no_items)
two_is no_items p e = absurd (none_some e)
two_is (item d no_items) p e = absurd (none_some e)
two_is (item d (item f no_items)) p e = ap (λ (q : Data × Data). item q.0 (item q.1 no_items)) (same_some e)
two_is (item d (item f (item g ds))) p e = absurd (none_some e)

point_ok : (d : Data) (p : Point) → point d ≡ Ok p → IsPoint p d
point_ok d p e =
    let l = bind_ok (or_fault (option_and_then two (as_array d))) _ p e in
    let x = bind_ok (below (item_step 0) (coordinate l.0.0)) _ p l.2 in
    let y = bind_ok (below (item_step 1) (coordinate l.0.1)) _ p x.2 in
    let a = then_some two (as_array d) l.0 (or_fault_ok _ l.0 l.1) in
    let is : IsPoint (record { x = x.0; y = y.0 }) d = (
      l.0.0,
      l.0.1,
      array_is d a.0 a.1 ∙ ap array (two_is a.0 l.0 a.2),
      coordinate_ok l.0.0 x.0 (below_ok (item_step 0) _ x.0 x.1),
      coordinate_ok l.0.1 y.0 (below_ok (item_step 1) _ y.0 y.1),
    ) in
    subst (λ (q : Point). IsPoint q d) (same_ok y.2) is

abbrev pub is_null : Data → Bool
is_null d = is_some (as_null d)

null_is : (d : Data) → is_null d ≡ true → d ≡ null
null_is null e = refl
null_is (boolean b) e = absurd (true≢false (sym e))
null_is (number n) e = absurd (true≢false (sym e))
null_is (string s) e = absurd (true≢false (sym e))
null_is (array ds) e = absurd (true≢false (sym e))
null_is (object es) e = absurd (true≢false (sym e))

or_null_ok : {A : Type 0} (reads : Data → Reading A) (Is : A → Data → Type 0) → ((v : Data) (y : A) → reads v ≡ Ok y → Is y v) → (d : Data) (o : Option A) → or_null reads d ≡ Ok o → IsOrNull Is o d
or_null_ok {A = A} reads Is h d o e = go (is_null d) refl e
  where
    some : (o : Option A) → (reads d >>= (λ x. Ok (Some x))) ≡ Ok o → IsOrNull Is o d
    some o e =
        let b = bind_ok (reads d) (λ x. Ok (Some x)) o e in
        subst (λ (q : Option A). IsOrNull Is q d) (same_ok b.2) (h d b.0 b.1)

    go : (b : Bool) → is_null d ≡ b → cond b (Ok None) (reads d >>= (λ x. Ok (Some x))) ≡ Ok o → IsOrNull Is o d
    go true n s = subst (λ (q : Option A). IsOrNull Is q d) (same_ok s) (null_is d n)
    go false n s = some o s

each_ok : {A : Type 0} (reads : Data → Reading A) (Is : A → Data → Type 0) → ((v : Data) (y : A) → reads v ≡ Ok y → Is y v) → (i : ℕ) (ds : Items) (xs : List A) → each reads i ds ≡ Ok xs → EachIs Is xs ds
each_ok reads Is h i no_items xs e = subst (λ ys. EachIs Is ys no_items) (same_ok e) tt
each_ok reads Is h i (item d ds) xs e =
    let x = bind_ok (below (item_step i) (reads d)) _ xs e in
    let ys = bind_ok (each reads (suc i) ds) _ xs x.2 in
    subst (λ zs. EachIs Is zs (item d ds)) (same_ok ys.2) (h d x.0 (below_ok (item_step i) (reads d) x.0 x.1), each_ok reads Is h (suc i) ds ys.0 ys.1)

list_ok : {A : Type 0} (reads : Data → Reading A) (Is : A → Data → Type 0) → ((v : Data) (y : A) → reads v ≡ Ok y → Is y v) → (d : Data) (xs : List A) → list reads d ≡ Ok xs → IsListOf Is xs d
list_ok reads Is h d xs e =
    let l = bind_ok (or_fault (as_array d)) (each reads 0) xs e in
    (l.0, array_is d l.0 (or_fault_ok (as_array d) l.0 l.1), each_ok reads Is h 0 l.0 xs l.2)

pub each_long : {A : Type 0} (Is : A → Data → Type 0) (xs : List A) (ds : Items) → EachIs Is xs ds → items_len ds ≡ length xs
each_long Is [] no_items h = refl
each_long Is [] (item d ds) h = absurd h
each_long Is (x ∷ xs) no_items h = absurd h
each_long Is (x ∷ xs) (item d ds) h = ap suc (each_long Is xs ds h.1)

few_le : (n : ℕ) → nat_le n 6 ≡ true → n ≤ 6
few_le n e = grind (arith, nat_tests)

inputs_ok : (d : Data) (ns : List Name) → inputs d ≡ Ok ns → IsListOf IsNameText ns d × (length ns ≤ 6)
inputs_ok d ns e =
    let l = bind_ok (or_fault (option_and_then (where_it are_few) (as_array d))) (each base_name 0) ns e in
    let t = then_some (where_it are_few) (as_array d) l.0 (or_fault_ok _ l.0 l.1) in
    let w = where_ok are_few t.0 l.0 t.2 in
    let is = each_ok base_name IsNameText base_name_ok 0 l.0 ns l.2 in
    ((l.0, array_is d l.0 (t.1 ∙ ap Some w.0), is), few_le (length ns) (ap (λ k. nat_le k 6) (sym (each_long IsNameText ns l.0 is)) ∙ w.1))

only_ok : (fields : List (List ℕ)) (ms : Members) (u : Unit {0}) → no_other (is_among fields) ms ≡ Ok u → HasOnly fields ms
only_ok fields no_members u e = tt
only_ok fields (member name d ms) u e = go (is_among fields name) refl e (only_ok fields ms u)
  where
    go : (b : Bool) → is_among fields name ≡ b → cond b (no_other (is_among fields) ms) (Err (field_step name)) ≡ Ok u → (no_other (is_among fields) ms ≡ Ok u → HasOnly fields ms) → HasOnly fields (member name d ms)
    go true t s rest = (t, rest s)
    go false t s rest = absurd (err_ok s)

-- ---- objects

gate_ok : (d : Data) (g : Gate) → gate d ≡ Ok g → IsGateDocument g d
gate_ok d g e =
    let ms = bind_ok (or_fault (as_object d)) _ g e in
    let name = bind_ok (field text (codes "name") d) _ g ms.2 in
    let nets = bind_ok (field inputs (codes "inputs") d) _ g name.2 in
    let rows = bind_ok (field (table (length nets.0)) (codes "table") d) _ g nets.2 in
    let output = bind_ok (field base_name (codes "output") d) _ g rows.2 in
    let near = bind_ok (field (or_null point) (codes "near") d) _ g output.2 in
    let none = bind_ok (no_other (is_among gate_fields) ms.0) _ g near.2 in
    let ns = field_ok inputs (codes "inputs") d nets.0 nets.1 in
    let is = inputs_ok ns.0 nets.0 ns.2 in
    let t = field_ok (table (length nets.0)) (codes "table") d rows.0 rows.1 in
    let r = table_ok (length nets.0) t.0 rows.0 t.2 in
    let m : length nets.0 ≡ rows.0.inputs = table_rows (length nets.0) r.0 rows.0 r.2 in
    let whole : IsGateDocument (record { name = name.0; table = rows.0; inputs = nets.0; output = output.0; near = near.0 }) d = record {
      only = (ms.0, object_is d ms.0 (or_fault_ok (as_object d) ms.0 ms.1), only_ok gate_fields ms.0 none.0 none.1);
      name = at_ok text IsText (codes "name") d name.0 text_ok name.1;
      inputs = (ns.0, ns.1, is.0);
      few = is.1;
      table = (t.0, t.1, (r.0, r.1, subst (λ k. table_of k r.0 ≡ Some rows.0) m r.2));
      rows = m;
      output = at_ok base_name IsNameText (codes "output") d output.0 base_name_ok output.1;
      near = at_ok (or_null point) (IsOrNull IsPoint) (codes "near") d near.0 (or_null_ok point IsPoint point_ok) near.1;
    } in
    subst (λ (q : Gate). IsGateDocument q d) (same_ok none.2) whole

move_ok : (d : Data) (m : Move) → move d ≡ Ok m → IsMoveDocument m d
move_ok d m e =
    let ms = bind_ok (or_fault (as_object d)) _ m e in
    let comp = bind_ok (field base_name (codes "comp") d) _ m ms.2 in
    let pin = bind_ok (field base_name (codes "pin") d) _ m comp.2 in
    let from = bind_ok (field (or_null base_name) (codes "from") d) _ m pin.2 in
    let to = bind_ok (field base_name (codes "to") d) _ m from.2 in
    let none = bind_ok (no_other (is_among move_fields) ms.0) _ m to.2 in
    let whole : IsMoveDocument (record { comp = comp.0; pin = pin.0; from = from.0; to = to.0 }) d = record {
      only = (ms.0, object_is d ms.0 (or_fault_ok (as_object d) ms.0 ms.1), only_ok move_fields ms.0 none.0 none.1);
      comp = at_ok base_name IsNameText (codes "comp") d comp.0 base_name_ok comp.1;
      pin = at_ok base_name IsNameText (codes "pin") d pin.0 base_name_ok pin.1;
      from = at_ok (or_null base_name) (IsOrNull IsNameText) (codes "from") d from.0 (or_null_ok base_name IsNameText base_name_ok) from.1;
      to = at_ok base_name IsNameText (codes "to") d to.0 base_name_ok to.1;
    } in
    subst (λ (q : Move). IsMoveDocument q d) (same_ok none.2) whole

pub order_ok : (d : Data) (o : Order) → order d ≡ Ok o → IsOrderDocument o d
order_ok d o e =
    let ms = bind_ok (or_fault (as_object d)) _ o e in
    let name = bind_ok (field text (codes "name") d) _ o ms.2 in
    let by = bind_ok (field text (codes "by") d) _ o name.2 in
    let nets = bind_ok (field (list text) (codes "nets") d) _ o by.2 in
    let gates = bind_ok (field (list gate) (codes "gates") d) _ o nets.2 in
    let moves = bind_ok (field (list move) (codes "moves") d) _ o gates.2 in
    let none = bind_ok (no_other (is_among order_fields) ms.0) _ o moves.2 in
    let whole : IsOrderDocument (record { name = name.0; by = by.0; nets = nets.0; gates = gates.0; moves = moves.0 }) d = record {
      only = (ms.0, object_is d ms.0 (or_fault_ok (as_object d) ms.0 ms.1), only_ok order_fields ms.0 none.0 none.1);
      name = at_ok text IsText (codes "name") d name.0 text_ok name.1;
      by = at_ok text IsText (codes "by") d by.0 text_ok by.1;
      nets = at_ok (list text) (IsListOf IsText) (codes "nets") d nets.0 (list_ok text IsText text_ok) nets.1;
      gates = at_ok (list gate) (IsListOf IsGateDocument) (codes "gates") d gates.0 (list_ok gate IsGateDocument gate_ok) gates.1;
      moves = at_ok (list move) (IsListOf IsMoveDocument) (codes "moves") d moves.0 (list_ok move IsMoveDocument move_ok) moves.1;
    } in
    subst (λ (q : Order). IsOrderDocument q d) (same_ok none.2) whole
