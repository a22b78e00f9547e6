-- What is written for an order says that order.
use Rattle.std.proofs.Common.{◌≡◌, ℕ, suc, ◌^◌, ◌<◌, ◌≤◌, ℤ, pos, negsuc, Bool, true, false, not, cond, ◌&&◌, ◌||◌, ◌==◌, List, [], ◌∷◌, length, map, codes, Option, Some, None, Ok, Err, nat_le, nat_lt, refl, sym, ap, ap₂, subst, ◌∙◌, arith}
use Rattle.std.proofs.lemmas.Bool.Decides.{nat_tests}
use Rattle.std.proofs.lemmas.List.FromFn.{length-map-range_with_len}
use Rattle.std.specs.List.{list_all, find, range_with_len, AllByRecursion}
use Rattle.std.specs.Option.{option_map, option_and_then}
use Rattle.std.specs.Str.{is_utf8}
use Rattle.eco_common.specs.NameBytes.{is_name}
use Rattle.eco_common.specs.Options.{first_some}
use Rattle.eco_common.specs.declared.geometry.Point.{Point}
use Rattle.eco_func.specs.Tables.{TruthTable, IsTable, at, row, bit}
use Rattle.eco_func.specs.FunctionsFile.{table_of, is_bit, is_one}
use Rattle.eco_func.proofs.RowValues.{row_of_bits}
use Rattle.serde_json.specs.Data.{Data, null, number, unsigned, string, array, object, Items, no_items, item}
use Rattle.serde_json.specs.Events.{items_len}
use Rattle.serde_json.specs.Find.{get, of_integer, as_str, as_i64, as_number}
use Rattle.serde_json.specs.View.{items_of}
use Rattle.eco_order_file.specs.declared.rule.Rule.{Rule}
use Rattle.eco_order_file.specs.declared.rule.Rule.TheVariants.{BadName}
use Rattle.eco_order_file.specs.Documents.{Reading, ◌>>=◌, or_fault, where_it, below, field_step, item_step, field, each, list, or_null, text, base_name, are_few, inputs, table, coordinate, point, gate, move, order}
use Rattle.eco_order_file.specs.Names.{Name, is_label, can_be_new}
use Rattle.eco_order_file.specs.Orders.{Gate, Move, Order, is_coordinate, IsWhole, HasNetNames, HasNames, HasBaseNames, IsInForm}
use Rattle.eco_order_file.specs.OrderValues.{name_value, list_value, value_or_null, digit, table_text, point_value, gate_value, move_value, order_value}
use Rattle.eco_order_file.specs.Reading.{keeping, unless_broken}
use Rattle.eco_order_file.specs.Rules.{broken_alone, too_large, bad_name, twice_named, no_label, no_new_net, gate_names}
use Rattle.eco_order_file.proofs.Alls.{all_down, all_map, all_both}
use Rattle.eco_order_file.proofs.Ascii.{base_text, label_text, net_text}
use Rattle.eco_order_file.proofs.Firsts.{first_none, mapped_none, all_pass, all_of_map}

-- ---- names and lists

name_is : (n : Name) → is_utf8 n ≡ true → name_value n ≡ string n
name_is n u = ap (λ b. cond b (string n) (number (unsigned 0))) u

text_back : (n : Name) → is_utf8 n ≡ true → text (name_value n) ≡ Ok n
text_back n u = ap text (name_is n u)

base_back : (n : Name) → is_name n ≡ true → base_name (name_value n) ≡ Ok n
base_back n h = ap base_name (name_is n (base_text n h)) ∙ ap (λ b. or_fault (cond b (Some n) None)) h

each_back : {A : Type 0} (reads : Data → Reading A) (value : A → Data) (i : ℕ) (xs : List A) → AllByRecursion (λ x. reads (value x) ≡ Ok x) xs → each reads i (items_of (map value xs)) ≡ Ok xs
each_back reads value i [] h = refl
each_back reads value i (x ∷ xs) h =
    ap (λ r. below (item_step i) r >>= (λ y. each reads (suc i) (items_of (map value xs)) >>= (λ ys. Ok (y ∷ ys)))) h.0
    ∙ ap (λ r. r >>= (λ ys. Ok (x ∷ ys))) (each_back reads value (suc i) xs h.1)

len_back : {A : Type 0} (value : A → Data) (xs : List A) → items_len (items_of (map value xs)) ≡ length xs
len_back value [] = refl
len_back value (x ∷ xs) = ap suc (len_back value xs)

inputs_back : (ns : List Name) → length ns ≤ 6 → AllByRecursion (λ n. is_name n ≡ true) ns → inputs (list_value name_value ns) ≡ Ok ns
inputs_back ns few h =
    let fits : are_few (items_of (map name_value ns)) ≡ true = ap (λ k. nat_le k 6) (len_back name_value ns) ∙ grind (arith, nat_tests) in
    ap (λ b. or_fault (cond b (Some (items_of (map name_value ns))) None) >>= each base_name 0) fits
    ∙ each_back base_name name_value 0 ns (all_map (λ n. is_name n ≡ true) (λ n. base_name (name_value n) ≡ Ok n) ns base_back h)

-- ---- tables and points

digit_bit : (b : Bool) → is_bit (digit b) ≡ true
digit_bit true = refl
digit_bit false = refl

digit_one : (b : Bool) → is_one (digit b) ≡ b
digit_one true = refl
digit_one false = refl

all_bits : (v : ℕ → Bool) (rs : List ℕ) → list_all is_bit (map (λ r. digit (v r)) rs) ≡ true
all_bits v [] = refl
all_bits v (r ∷ rs) = ap₂ (λ a b. a && b) (digit_bit (v r)) (all_bits v rs)

ones : (v : ℕ → Bool) (rs : List ℕ) → map is_one (map (λ r. digit (v r)) rs) ≡ map v rs
ones v [] = refl
ones v (r ∷ rs) = ap₂ (λ b bs. b ∷ bs) (digit_one (v r)) (ones v rs)

same_test : (a b : ℕ) → a ≡ b → (a == b) ≡ true
same_test a b e = grind (arith, nat_tests)

table_own : (t : TruthTable) → IsTable t.inputs t.bits → table t.inputs (string (table_text t)) ≡ Ok t
table_own t is =
    let n = 2 ^ t.inputs in
    let rs = range_with_len 0 n in
    let rows : row (map is_one (table_text t)) ≡ t.bits = ap row (ones (at t) rs) ∙ sym (row_of_bits n t.bits (at t) is.within (λ r h. refl)) in
    let test : (length (table_text t) == n && list_all is_bit (table_text t)) ≡ true =
    ap₂ (λ a b. a && b) (same_test (length (table_text t)) n (length-map-range_with_len (λ r. digit (at t r)) 0 n)) (all_bits (at t) rs) in
    ap (λ b. or_fault (cond b (Some (record { inputs = t.inputs; bits = row (map is_one (table_text t)) })) None)) test
    ∙ ap (λ (k : ℕ). Ok (record { inputs = t.inputs; bits = k })) rows

table_back : (t : TruthTable) (m : ℕ) → t.inputs ≡ m → IsTable t.inputs t.bits → table m (string (table_text t)) ≡ Ok t
table_back t m e is = subst (λ k. table k (string (table_text t)) ≡ Ok t) e (table_own t is)

fits_far : (n : ℕ) → nat_lt n (2 ^ 31) ≡ true → nat_lt n (2 ^ 63) ≡ true
fits_far n h = grind (arith, nat_tests)

number_back : (z : ℤ) → is_coordinate z ≡ true → coordinate (number (of_integer z)) ≡ Ok z
number_back (pos n) h =
    ap (λ b. or_fault (option_and_then (where_it is_coordinate) (cond b (Some (pos n)) None))) (fits_far n h)
    ∙ ap (λ b. or_fault (cond b (Some (pos n)) None)) h
number_back (negsuc n) h = ap (λ b. or_fault (cond b (Some (negsuc n)) None)) h

point_back : (p : Point) → is_coordinate p.x ≡ true → is_coordinate p.y ≡ true → point (point_value p) ≡ Ok p
point_back p hx hy =
    ap (λ r. below (item_step 0) r >>= (λ x. below (item_step 1) (coordinate (number (of_integer p.y))) >>= (λ y. Ok (record { x = x; y = y })))) (number_back p.x hx)
    ∙ ap (λ r. below (item_step 1) r >>= (λ y. Ok (record { x = p.x; y = y }))) (number_back p.y hy)

near_back : (o : Option Point) → ((p : Point) → o ≡ Some p → (is_coordinate p.x ≡ true) × (is_coordinate p.y ≡ true)) → or_null point (value_or_null point_value o) ≡ Ok o
near_back None h = refl
near_back (Some p) h = ap (λ r. r >>= (λ x. Ok (Some x))) (point_back p (h p refl).0 (h p refl).1)

from_back : (o : Option Name) → ((n : Name) → o ≡ Some n → is_name n ≡ true) → or_null base_name (value_or_null name_value o) ≡ Ok o
from_back None h = refl
from_back (Some n) h =
    ap (or_null base_name) (name_is n (base_text n (h n refl)))
    ∙ ap (λ b. or_fault (cond b (Some n) None) >>= (λ x. Ok (Some x))) (h n refl)

-- ---- objects

pub then : {A B : Type 0} (r : Reading A) (x : A) (f : A → Reading B) → r ≡ Ok x → (r >>= f) ≡ f x
then r x f e = ap (λ s. s >>= f) e

pub field_back : {A : Type 0} (reads : Data → Reading A) (name : List ℕ) (d v : Data) (x : A) → get name d ≡ Some v → reads v ≡ Ok x → field reads name d ≡ Ok x
field_back reads name d v x found e =
    ap (λ o. below (field_step name) (or_fault o >>= reads)) found ∙ ap (below (field_step name)) e

move_back : (m : Move) → HasNames m → move (move_value m) ≡ Ok m
move_back m is =
    let d = move_value m in
    then _ m.comp _ (field_back base_name (codes "comp") d (name_value m.comp) m.comp refl (base_back m.comp is.comp))
    ∙ then _ m.pin _ (field_back base_name (codes "pin") d (name_value m.pin) m.pin refl (base_back m.pin is.pin))
    ∙ then _ m.from _ (field_back (or_null base_name) (codes "from") d (value_or_null name_value m.from) m.from refl (from_back m.from is.from))
    ∙ then _ m.to _ (field_back base_name (codes "to") d (name_value m.to) m.to refl (base_back m.to is.to))

gate_back : (g : Gate) → IsWhole g → HasNetNames g → is_utf8 g.name ≡ true → gate (gate_value g) ≡ Ok g
gate_back g is ns u =
    let d = gate_value g in
    then _ g.name _ (field_back text (codes "name") d (name_value g.name) g.name refl (text_back g.name u))
    ∙ then _ g.inputs _ (field_back inputs (codes "inputs") d (list_value name_value g.inputs) g.inputs refl (inputs_back g.inputs (omega (arith, is.rows, is.table.few)) (all_down (λ n. is_name n ≡ true) g.inputs ns.inputs)))
    ∙ then _ g.table _ (field_back (table (length g.inputs)) (codes "table") d (string (table_text g.table)) g.table refl (table_back g.table (length g.inputs) (sym is.rows) is.table))
    ∙ then _ g.output _ (field_back base_name (codes "output") d (name_value g.output) g.output refl (base_back g.output ns.output))
    ∙ then _ g.near _ (field_back (or_null point) (codes "near") d (value_or_null point_value g.near) g.near refl (near_back g.near is.near))

list_back : {A : Type 0} (reads : Data → Reading A) (value : A → Data) (xs : List A) → AllByRecursion (λ x. reads (value x) ≡ Ok x) xs → list reads (list_value value xs) ≡ Ok xs
list_back reads value xs h = each_back reads value 0 xs h

texts_back : (ns : List Name) → AllByRecursion (λ n. is_utf8 n ≡ true) ns → list text (list_value name_value ns) ≡ Ok ns
texts_back ns h = list_back text name_value ns (all_map (λ n. is_utf8 n ≡ true) (λ n. text (name_value n) ≡ Ok n) ns text_back h)

-- a gate that is whole and has names
record IsGate (g : Gate) : Type 0 where
  whole : IsWhole g
  names : HasNetNames g

gates_back : (gs : List Gate) → AllByRecursion IsWhole gs → AllByRecursion HasNetNames gs → AllByRecursion (λ g. is_utf8 g.name ≡ true) gs → list gate (list_value gate_value gs) ≡ Ok gs
gates_back gs is ns us =
    let both = all_both IsWhole HasNetNames IsGate gs (λ g h i. record { whole = h; names = i }) is ns in
    list_back gate gate_value gs (all_both IsGate (λ g. is_utf8 g.name ≡ true) (λ g. gate (gate_value g) ≡ Ok g) gs (λ g h u. gate_back g h.whole h.names u) both us)

moves_back : (ms : List Move) → AllByRecursion HasNames ms → list move (list_value move_value ms) ≡ Ok ms
moves_back ms is = list_back move move_value ms (all_map HasNames (λ m. move (move_value m) ≡ Ok m) ms move_back is)

-- the names that a document gives as texts
record AreTexts (o : Order) : Type 0 where
  name : is_utf8 o.name ≡ true
  by : is_utf8 o.by ≡ true
  nets : AllByRecursion (λ n. is_utf8 n ≡ true) o.nets
  gates : AllByRecursion (λ g. is_utf8 g.name ≡ true) o.gates

fields_back : (o : Order) → IsInForm o → AreTexts o → order (order_value o) ≡ Ok o
fields_back o is ts =
    let d = order_value o in
    then _ o.name _ (field_back text (codes "name") d (name_value o.name) o.name refl (text_back o.name ts.name))
    ∙ then _ o.by _ (field_back text (codes "by") d (name_value o.by) o.by refl (text_back o.by ts.by))
    ∙ then _ o.nets _ (field_back (list text) (codes "nets") d (list_value name_value o.nets) o.nets refl (texts_back o.nets ts.nets))
    ∙ then _ o.gates _ (field_back (list gate) (codes "gates") d (list_value gate_value o.gates) o.gates refl (gates_back o.gates (all_down IsWhole o.gates is.whole) (all_down HasNetNames o.gates is.names.gates) ts.gates))
    ∙ then _ o.moves _ (field_back (list move) (codes "moves") d (list_value move_value o.moves) o.moves refl (moves_back o.moves (all_down HasNames o.moves is.names.moves)))

-- ---- rule 4

labels : (ns : List Name) → no_label ns ≡ None → AllByRecursion (λ n. is_utf8 n ≡ true) ns
labels ns e = all_map (λ n. is_label n ≡ true) (λ n. is_utf8 n ≡ true) ns label_text (all_pass is_label ns e)

texts_of : (o : Order) → broken_alone o ≡ None → AreTexts o
texts_of o b =
    let rest = first_none (too_large o) (bad_name o ∷ twice_named o ∷ []) b in
    let named = first_none (bad_name o) (twice_named o ∷ []) rest.1 in
    let parts : List (Option Name) = no_label (o.name ∷ o.by ∷ []) ∷ no_new_net o.nets ∷ no_label (gate_names o) ∷ [] in
    let good : first_some parts ≡ None = mapped_none BadName (first_some parts) named.0 in
    let head = first_none (no_label (o.name ∷ o.by ∷ [])) (no_new_net o.nets ∷ no_label (gate_names o) ∷ []) good in
    let nets = first_none (no_new_net o.nets) (no_label (gate_names o) ∷ []) head.1 in
    let gates = first_none (no_label (gate_names o)) [] nets.1 in
    let heads = labels (o.name ∷ o.by ∷ []) head.0 in
    record {
      name = heads.0;
      by = heads.1.0;
      nets = all_map (λ n. can_be_new n ≡ true) (λ n. is_utf8 n ≡ true) o.nets net_text (all_pass can_be_new o.nets nets.0);
      gates = all_of_map (λ g. g.name) (λ n. is_utf8 n ≡ true) o.gates (labels (gate_names o) gates.0);
    }

pub order_back : (o : Order) → IsInForm o → broken_alone o ≡ None → keeping (order (order_value o)) ≡ Ok o
order_back o is b = ap keeping (fields_back o is (texts_of o b)) ∙ ap (unless_broken o) b
