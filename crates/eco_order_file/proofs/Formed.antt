-- What a document says is in form.
use Rattle.std.proofs.Common.{◌≡◌, ◌≤◌, ◌<◌, ◌^◌, ◌&&◌, ◌==◌, ℕ, Bool, true, false, cond, List, [], ◌∷◌, All, length, map, Option, Some, None, Result, Ok, Err, IfOk, refl, sym, ap, subst, ◌∙◌, arith, codes}
use Rattle.std.proofs.lemmas.Bool.Decides.{nat_tests}
use Rattle.std.proofs.lemmas.Str.{IsUtf8-from_is_utf8, is_utf8-from_IsUtf8}
use Rattle.std.specs.List.{list_all, AllByRecursion}
use Rattle.std.specs.Str.{is_utf8, IsUtf8}
use Rattle.eco_common.specs.NameBytes.{is_name}
use Rattle.eco_common.specs.declared.geometry.Point.{Point}
use Rattle.eco_func.specs.Tables.{TruthTable, IsTable, row}
use Rattle.eco_func.specs.FunctionsFile.{table_of, is_bit, is_one}
use Rattle.eco_func.proofs.RowValues.{row_fits}
use Rattle.serde_json.specs.Data.{Data, Items, no_items, item}
use Rattle.serde_json.specs.Find.{get}
use Rattle.serde_json.specs.Read.{read}
use Rattle.eco_order_file.specs.declared.rule.Rule.{Rule}
use Rattle.eco_order_file.specs.declared.rule.OrderFault.{OrderFault}
use Rattle.eco_order_file.specs.declared.rule.OrderFault.TheVariants.{Broken, Memory}
use Rattle.eco_order_file.specs.Documents.{Reading, order}
use Rattle.eco_order_file.specs.FieldByField.{At, IsNameText, EachIs, IsListOf, IsOrNull, IsTableText, IsCoordinate, IsPoint, IsGateDocument, IsMoveDocument, IsOrderDocument}
use Rattle.eco_order_file.specs.Names.{Name}
use Rattle.eco_order_file.specs.Orders.{Gate, Move, Order, is_coordinate, IsWhole, HasNetNames, HasNames, IsInForm}
use Rattle.eco_order_file.specs.Reading.{keeping, unless_broken, said_of, document_of, Answers, Reads}
use Rattle.eco_order_file.specs.Rules.{broken_alone}
use Rattle.eco_order_file.proofs.Alls.{all_up}
use Rattle.eco_order_file.proofs.Ascii.{both_true}
use Rattle.eco_order_file.proofs.Inverted.{err_ok, same_ok, none_some, same_some, order_ok}

-- ---- tables, lists and options

equal_test : (a b : ℕ) → (a == b) ≡ true → a ≡ b
equal_test a b e = grind (arith, nat_tests)

length_ones : (rows : List ℕ) → length (map is_one rows) ≡ length rows
length_ones [] = refl
length_ones (r ∷ rs) = ap Rattle.std.proofs.Common.suc (length_ones rs)

pub table_fits : (m : ℕ) (rows : List ℕ) (t : TruthTable) → m ≤ 6 → table_of m rows ≡ Some t → IsTable t.inputs t.bits
table_fits m rows t few e = go (length rows == 2 ^ m && list_all is_bit rows) refl e
  where
    go : (b : Bool) → (length rows == 2 ^ m && list_all is_bit rows) ≡ b → cond b (Some (record { inputs = m; bits = row (map is_one rows) })) None ≡ Some t → IsTable t.inputs t.bits
    go true f s =
        let long : length (map is_one rows) ≡ 2 ^ m = length_ones rows ∙ equal_test (length rows) (2 ^ m) (both_true (length rows == 2 ^ m) (list_all is_bit rows) f).0 in
        let is : IsTable m (row (map is_one rows)) = record {
          few = few;
          within = subst (λ k. row (map is_one rows) < 2 ^ k) long (row_fits (map is_one rows));
        } in
        subst (λ (q : TruthTable). IsTable q.inputs q.bits) (same_some s) is
    go false f s = absurd (none_some s)

each_all : {A : Type 0} (Is : A → Data → Type 0) (P : A → Type 0) → ((x : A) (d : Data) → Is x d → P x) → (xs : List A) (ds : Items) → EachIs Is xs ds → AllByRecursion P xs
each_all Is P h [] ds e = tt
each_all Is P h (x ∷ xs) no_items e = absurd e
each_all Is P h (x ∷ xs) (item d ds) e = (h x d e.0, each_all Is P h xs ds e.1)

list_all_are : {A : Type 0} (Is : A → Data → Type 0) (P : A → Type 0) → ((x : A) (d : Data) → Is x d → P x) → (xs : List A) (d : Data) → IsListOf Is xs d → All P xs
list_all_are Is P h xs d l = all_up P xs (each_all Is P h xs l.0 l.2)

-- ---- objects

gate_whole : (g : Gate) (d : Data) → IsGateDocument g d → IsWhole g
gate_whole g d is = record {
  table = table_fits g.table.inputs is.table.2.0 g.table (omega (arith, is.few, is.rows)) is.table.2.2;
  rows = is.rows;
  near = λ p e. let h : IsPoint p is.near.0 = subst (λ o. IsOrNull IsPoint o is.near.0) e is.near.2 in (h.3.3, h.4.3);
}

gate_names : (g : Gate) (d : Data) → IsGateDocument g d → HasNetNames g
gate_names g d is = record {
  inputs = list_all_are IsNameText (λ n. is_name n ≡ true) (λ n v h. h.1) g.inputs is.inputs.0 is.inputs.2;
  output = is.output.2.1;
}

move_names : (m : Move) (d : Data) → IsMoveDocument m d → HasNames m
move_names m d is = record {
  comp = is.comp.2.1;
  pin = is.pin.2.1;
  from = λ n e. let h : IsNameText n is.from.0 = subst (λ o. IsOrNull IsNameText o is.from.0) e is.from.2 in h.1;
  to = is.to.2.1;
}

order_form : (d : Data) (o : Order) → order d ≡ Ok o → IsInForm o
order_form d o e =
    let is = order_ok d o e in
    record {
      whole = list_all_are IsGateDocument IsWhole gate_whole o.gates is.gates.0 is.gates.2;
      names = record {
        gates = list_all_are IsGateDocument HasNetNames gate_names o.gates is.gates.0 is.gates.2;
        moves = list_all_are IsMoveDocument HasNames move_names o.moves is.moves.0 is.moves.2;
      };
    }

-- ---- answers

unless_ok : (o p : Order) (b : Option Rule) → unless_broken o b ≡ Ok p → (o ≡ p) × (b ≡ None)
unless_ok o p None e = (cc, refl)
unless_ok o p (Some rule) e = absurd cc

keeping_ok : (r : Reading Order) (o : Order) → keeping r ≡ Ok o → (r ≡ Ok o) × (broken_alone o ≡ None)
keeping_ok (Ok p) o e =
    let u = unless_ok p o (broken_alone p) e in
    (ap (λ q. Ok q) u.0, subst (λ q. broken_alone q ≡ None) u.0 u.1)
keeping_ok (Err path) o e = absurd cc

pub answer_form : (d : Data) (r : Result Order OrderFault) → Answers (keeping (order d)) r → IfOk r IsInForm
answer_form d (Ok o) h = order_form d o (keeping_ok (order d) o h).0
answer_form d (Err e) h = tt

pub answer_unbroken : (d : Data) (r : Result Order OrderFault) → Answers (keeping (order d)) r → IfOk r (λ o. broken_alone o ≡ None)
answer_unbroken d (Ok o) h = (keeping_ok (order d) o h).1
answer_unbroken d (Err e) h = tt

pub answer_reads : (text : List ℕ) (d : Data) (r : Result Order OrderFault) → IsUtf8 text → read text ≡ Some d → Answers (keeping (order d)) r → Reads text r
answer_reads text d r u e h =
    let same : keeping (order d) ≡ said_of (document_of text) =
    ap said_of (sym e) ∙ ap (λ b. said_of (cond b (read text) None)) (sym (is_utf8-from_IsUtf8 text u)) in
    subst (λ s. Answers s r) same h

pub no_text : (text : List ℕ) → (IsUtf8 text → read text ≡ None) → document_of text ≡ None
no_text text h = go (is_utf8 text) refl
  where
    go : (b : Bool) → is_utf8 text ≡ b → cond b (read text) None ≡ None
    go true e = h (IsUtf8-from_is_utf8 text e)
    go false e = refl
