-- The value of an order is shallow and has no float.
use Rattle.std.proofs.Common.{◌≡◌, ℕ, suc, ◌≤◌, max, ℤ, pos, negsuc, Bool, true, false, cond, ◌||◌, List, [], ◌∷◌, All, map, Option, Some, None, Ok, refl, sym, subst, inl, ap, ap₂, ◌∙◌, arith}
use Rattle.std.specs.Str.{is_utf8, IsUtf8}
use Rattle.std.proofs.lemmas.Str.{is_utf8-from_IsUtf8}
use Rattle.eco_common.specs.declared.geometry.Point.{Point}
use Rattle.eco_order_file.specs.Names.{Name}
use Rattle.eco_order_file.specs.Orders.{Gate, Move, Order, IsWhole, HasBaseNames}
use Rattle.eco_order_file.specs.Reading.{Reads, said_of}
use Rattle.eco_order_file.specs.Rules.{broken_alone}
use Rattle.eco_order_file.proofs.ReadBack.{order_back}
use Rattle.eco_order_file.specs.OrderValues.{name_value, list_value, value_or_null, point_value, gate_value, move_value, order_value}
use Rattle.serde_json.specs.Data.{Data, number, depth, items_depth, members_depth}
use Rattle.serde_json.specs.Find.{of_integer}
use Rattle.serde_json.specs.View.{items_of}
use Rattle.serde_json.specs.Written.{has_float, items_have_float, compact_text}
use Rattle.serde_json.specs.Read.{read, max_depth}

-- no float, and so deep at most
pub record IsPlain (most : ℕ) (d : Data) : Type 0 where
  pub whole : has_float d ≡ false
  pub shallow : depth d ≤ most

pub name_plain : (n : Name) → IsPlain 0 (name_value n)
name_plain n = go (is_utf8 n)
  where
    go : (b : Bool) → IsPlain 0 (cond b (Rattle.serde_json.specs.Data.string n) (number (Rattle.serde_json.specs.Data.unsigned 0)))
    go true = record { whole = refl; shallow = omega arith }
    go false = record { whole = refl; shallow = omega arith }

integer_whole : (z : ℤ) → has_float (number (of_integer z)) ≡ false
integer_whole (pos n) = refl
integer_whole (negsuc n) = refl

deeper : (k n : ℕ) (d : Data) → k ≤ n → IsPlain k d → IsPlain n d
deeper k n d h p = record { whole = p.whole; shallow = omega (arith, p.shallow) }

items_whole : {A : Type 0} (value : A → Data) (k : ℕ) (xs : List A) → ((x : A) → IsPlain k (value x)) → items_have_float (items_of (map value xs)) ≡ false
items_whole value k [] h = refl
items_whole value k (x ∷ xs) h = ap₂ (λ a b. a || b) (h x).whole (items_whole value k xs h)

items_shallow : {A : Type 0} (value : A → Data) (k : ℕ) (xs : List A) → ((x : A) → IsPlain k (value x)) → items_depth (items_of (map value xs)) ≤ k
items_shallow value k [] h = omega arith
items_shallow value k (x ∷ xs) h = omega (arith, (h x).shallow, items_shallow value k xs h)

pub list_plain : {A : Type 0} (value : A → Data) (k : ℕ) (xs : List A) → ((x : A) → IsPlain k (value x)) → IsPlain (suc k) (list_value value xs)
list_plain value k xs h = record { whole = items_whole value k xs h; shallow = omega (arith, items_shallow value k xs h) }

near_plain : (o : Option Point) → IsPlain 1 (value_or_null point_value o)
near_plain None = record { whole = refl; shallow = omega arith }
near_plain (Some p) = record { whole = ap₂ (λ a b. a || (b || false)) (integer_whole p.x) (integer_whole p.y); shallow = omega arith }

pub from_plain : (o : Option Name) → IsPlain 0 (value_or_null name_value o)
from_plain None = record { whole = refl; shallow = omega arith }
from_plain (Some n) = name_plain n

gate_plain : (g : Gate) → IsPlain 2 (gate_value g)
gate_plain g =
    let inputs = list_plain name_value 0 g.inputs name_plain in
    let name = name_plain g.name in
    let near = near_plain g.near in
    let output = name_plain g.output in
    record {
      whole = ap₂ (λ a b. a || b) inputs.whole (ap₂ (λ a b. a || b) name.whole (ap₂ (λ a b. a || b) near.whole (ap (λ a. a || false) output.whole)));
      shallow = omega (arith, inputs.shallow, name.shallow, near.shallow, output.shallow);
    }

move_plain : (m : Move) → IsPlain 1 (move_value m)
move_plain m =
    let comp = name_plain m.comp in
    let from = from_plain m.from in
    let pin = name_plain m.pin in
    let to = name_plain m.to in
    record {
      whole = ap₂ (λ a b. a || b) comp.whole (ap₂ (λ a b. a || b) from.whole (ap₂ (λ a b. a || b) pin.whole (ap (λ a. a || false) to.whole)));
      shallow = omega (arith, comp.shallow, from.shallow, pin.shallow, to.shallow);
    }

pub order_plain : (o : Order) → IsPlain 4 (order_value o)
order_plain o =
    let by = name_plain o.by in
    let gates = list_plain gate_value 2 o.gates gate_plain in
    let moves = list_plain move_value 1 o.moves move_plain in
    let name = name_plain o.name in
    let nets = list_plain name_value 0 o.nets name_plain in
    record {
      whole = ap₂ (λ a b. a || b) by.whole (ap₂ (λ a b. a || b) gates.whole (ap₂ (λ a b. a || b) moves.whole (ap₂ (λ a b. a || b) name.whole (ap (λ a. a || false) nets.whole))));
      shallow = omega (arith, by.shallow, gates.shallow, moves.shallow, name.shallow, nets.shallow);
    }

pub text_of_order : (o : Order) (v : Data) (bs : List ℕ) → v ≡ order_value o → (has_float v ≡ false → bs ≡ compact_text v) → bs ≡ compact_text (order_value o)
text_of_order o v bs e h = h (ap has_float e ∙ (order_plain o).whole) ∙ ap compact_text e

pub order_of_text : (o : Order) (v : Data) (bs : List ℕ) → v ≡ order_value o → IsUtf8 bs → (depth v ≤ max_depth → read bs ≡ Some v) → All IsWhole o.gates → HasBaseNames o → broken_alone o ≡ None → Reads bs (Ok o)
order_of_text o v bs e u h is ns b =
    let low : depth v ≤ max_depth = subst (λ d. depth d ≤ max_depth) (sym e) (omega (arith, (order_plain o).shallow)) in
    ap (λ b. said_of (cond b (read bs) None)) (is_utf8-from_IsUtf8 bs u) ∙ ap said_of (h low ∙ ap Some e) ∙ order_back o (record { whole = is; names = ns }) b
