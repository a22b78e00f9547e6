-- Outputs that a document gives fit their inputs.
use Rattle.std.proofs.Common.{◌≡◌, ℕ, ◌==◌, ◌≤◌, ◌&&◌, ◌||◌, not, nat_le, Bool, true, false, cond, List, [], ◌∷◌, ◌++◌, length, map, Option, Some, None, Result, Ok, Err, String, Global, Vec, string_bytes, nat_cmp, Less, IfOk, refl, ap, ap₂, ◌∙◌, sym, subst, codes, arith}
use Rattle.std.specs.List.{list_all, list_any, AllByRecursion}
use Rattle.std.specs.List.Sorted.{IsStrictlySortedBy}
use Rattle.std.specs.Cmp.Lexicographic.{slice_cmp}
use Rattle.std.specs.Map.{keys_of}
use Rattle.std.specs.String.{string_cmp}
use Rattle.std.specs.Str.{bytes_eq}
use Rattle.std.proofs.lemmas.Bool.{and_parts}
use Rattle.std.proofs.lemmas.List.{length-map}
use Rattle.std.proofs.lemmas.Bool.Decides.{nat_tests}
use Rattle.std.proofs.lemmas.List.Folds.{list_any-append}
use Rattle.toml.specs.Data.{Data, as_str}
use Rattle.toml.specs.View.{view, members_view}
use Rattle.toml.specs.declared.value.Value.{Value}
use Rattle.eco_func.specs.declared.output.OutputFn.{OutputFn}
use Rattle.eco_func.specs.declared.fault.FuncFault.{FuncFault}
use Rattle.eco_func.specs.declared.fault.FuncFault.TheVariants.{BadField, BadTable}
use Rattle.eco_func.specs.Tables.{TruthTable}
use Rattle.eco_func.specs.Masters.{all_differ, is_master}
use Rattle.eco_func.specs.Expressions.{Expression, expression_in, table_by, first_unknown}
use Rattle.eco_func.specs.FunctionsFile.{or_fault, and_more, is_bit, table_of, known, expressed, output_table, output_of, outputs_of, member_count, no_key_among, may_be_outputs, GivesValue}
use Rattle.eco_func.proofs.RowLaws.{characters}
use Rattle.eco_func.proofs.DocumentLemmas.{bound, same_ok, member_count-view}
use Rattle.eco_func.proofs.Finding.{other_name}
use Rattle.eco_func.proofs.ByName.{bytes_ascend}

-- ---- tables over all inputs

known_over : (m p : List ℕ) (inputs : List (List ℕ)) (e : Expression) (o : Option (List ℕ)) (t : TruthTable) → known m p inputs e o ≡ Ok t → t.inputs ≡ length inputs
known_over m p inputs e None t h = ap (λ x. x.inputs) (sym (same_ok (table_by inputs e) t h))
known_over m p inputs e (Some n) t h = absurd (cc)

expressed_over : (m p : List ℕ) (inputs : List (List ℕ)) (r : Result Expression ℕ) (t : TruthTable) → expressed m p inputs r ≡ Ok t → t.inputs ≡ length inputs
expressed_over m p inputs (Ok e) t h = known_over m p inputs e (first_unknown inputs e) t h
expressed_over m p inputs (Err place) t h = absurd (cc)

written_over : (m p : List ℕ) (inputs : List (List ℕ)) (text : List ℕ) (o : Option TruthTable) (t : TruthTable) → table_of (length inputs) text ≡ o → or_fault (BadTable m p) o ≡ Ok t → t.inputs ≡ length inputs
written_over m p inputs text None t e h = absurd (cc)
written_over m p inputs text (Some s) t e h = ap (λ x. x.inputs) (sym (same_ok s t h)) ∙ (characters (length inputs) text s e).0

table_over : (m p : List ℕ) (inputs : List (List ℕ)) (text : List ℕ) (b : Bool) (t : TruthTable) → cond b (or_fault (BadTable m p) (table_of (length inputs) text)) (expressed m p inputs (expression_in text)) ≡ Ok t → t.inputs ≡ length inputs
table_over m p inputs text true t h = written_over m p inputs text (table_of (length inputs) text) t refl h
table_over m p inputs text false t h = expressed_over m p inputs (expression_in text) t h

output_over : (m p : List ℕ) (inputs : List (List ℕ)) (d : Data) (t : TruthTable) → output_of m p inputs d ≡ Ok t → t.inputs ≡ length inputs
output_over m p inputs d t h =
    let b = bound (or_fault (BadField m (codes "outputs")) (as_str d)) (output_table m p inputs) t h in
    table_over m p inputs b.0 (list_all is_bit b.0) t b.2

record Over (inputs : List (List ℕ)) (keys : List (String Global)) (outputs : List OutputFn) : Type 0 where
  pins : map (λ o. o.pin) outputs ≡ map string_bytes keys
  tables : list_all (λ o. o.table.inputs == length inputs) outputs ≡ true

equal : (a b : ℕ) → a ≡ b → (a == b) ≡ true
equal a b e = grind (arith, nat_tests)

over : (m : List ℕ) (inputs : List (List ℕ)) (es : List (String Global × Value)) (outputs : List OutputFn) → outputs_of m inputs (members_view es) ≡ Ok outputs → Over inputs (keys_of es) outputs
over m inputs [] outputs h = subst (Over inputs []) (same_ok [] outputs h) (record { pins = refl; tables = refl })
over m inputs (e ∷ es) outputs h =
    let p = bound (output_of m (string_bytes e.0) inputs (view e.1)) (λ t. and_more (record { pin = string_bytes e.0; table = t }) (outputs_of m inputs (members_view es))) outputs h in
    let first : OutputFn = record { pin = string_bytes e.0; table = p.0 } in
    let q = bound (outputs_of m inputs (members_view es)) (λ more. Ok (first ∷ more)) outputs p.2 in
    let rest = over m inputs es q.0 q.1 in
    subst (Over inputs (keys_of (e ∷ es))) (same_ok (first ∷ q.0) outputs q.2) (record {
      pins = ap (λ ps. string_bytes e.0 ∷ ps) rest.pins;
      tables = ap₂ (λ a b. a && b) (equal p.0.inputs (length inputs) (output_over m (string_bytes e.0) inputs (view e.1) p.0 p.1)) rest.tables;
    })

-- ---- distinct pins

none_equal : (k : List ℕ) (ks : List (List ℕ)) → AllByRecursion (λ y. slice_cmp nat_cmp k y ≡ Less) ks → list_any (bytes_eq k) ks ≡ false
none_equal k [] h = refl
none_equal k (y ∷ ys) h = ap₂ (λ a b. a || b) (other_name k y h.0) (none_equal k ys h.1)

ascending : (ks : List (List ℕ)) → IsStrictlySortedBy (slice_cmp nat_cmp) ks → all_differ ks ≡ true
unfolding IsStrictlySortedBy
ascending [] h = refl
ascending (k ∷ ks) h = ap₂ (λ a b. not a && b) (none_equal k ks h.0) (ascending ks h.1)

neither : (a b : Bool) → not (a || b) ≡ true → (a ≡ false) × (b ≡ false)
neither true b h = absurd (cc)
neither false true h = absurd (cc)
neither false false h = (refl, refl)

none_is : (n : List ℕ) (ns : List (List ℕ)) (es : List (String Global × Value)) → no_key_among (n ∷ ns) (members_view es) ≡ true
    → (list_any (bytes_eq n) (map string_bytes (keys_of es)) ≡ false) × (no_key_among ns (members_view es) ≡ true)
none_is n ns [] h = (refl, refl)
none_is n ns (e ∷ es) h =
    let k = string_bytes e.0 in
    let both = and_parts (not (list_any (λ name. bytes_eq name k) (n ∷ ns))) (no_key_among (n ∷ ns) (members_view es)) h in
    let here = neither (bytes_eq n k) (list_any (λ name. bytes_eq name k) ns) both.0 in
    let rest = none_is n ns es both.1 in
    (ap₂ (λ a b. a || b) here.0 rest.0, ap₂ (λ a b. not a && b) here.1 rest.1)

differ_from : (inputs : List (List ℕ)) (es : List (String Global × Value)) → all_differ inputs ≡ true → no_key_among inputs (members_view es) ≡ true → all_differ (map string_bytes (keys_of es)) ≡ true
    → all_differ (inputs ++ map string_bytes (keys_of es)) ≡ true
differ_from [] es h k d = d
differ_from (n ∷ ns) es h k d =
    let both = and_parts (not (list_any (bytes_eq n) ns)) (all_differ ns) h in
    let none = none_is n ns es k in
    let new : list_any (bytes_eq n) ns ≡ false = unnot (list_any (bytes_eq n) ns) both.0 in
    ap₂ (λ a b. not a && b) (list_any-append (bytes_eq n) ns (map string_bytes (keys_of es)) ∙ ap₂ (λ a b. a || b) new none.0) (differ_from ns es both.1 none.1 d)
  where
    unnot : (b : Bool) → not b ≡ true → b ≡ false
    unnot true h = absurd (cc)
    unnot false h = refl

-- ---- a master

module _ (m : List ℕ) (inputs : List (List ℕ)) (es : List (String Global × Value)) (few : length inputs ≤ 6) (pinned : may_be_outputs inputs (members_view es) ≡ true) (ordered : IsStrictlySortedBy string_cmp (keys_of es)) where
  makes : (outputs : List OutputFn) → outputs_of m inputs (members_view es) ≡ Ok outputs → all_differ inputs ≡ true → is_master inputs outputs ≡ true
  makes outputs h d =
      let o = over m inputs es outputs h in
      let n = member_count (members_view es) in
      let count : length outputs ≡ n = sym (length-map outputs (λ o. o.pin)) ∙ ap length o.pins ∙ length-map (keys_of es) string_bytes ∙ length-map es (λ e. e.0) ∙ sym (member_count-view es) in
      let a = and_parts (nat_le 1 n && nat_le n 8) (no_key_among inputs (members_view es)) pinned in
      let b = and_parts (nat_le 1 n) (nat_le n 8) a.0 in
      let distinct : all_differ (inputs ++ map (λ o. o.pin) outputs) ≡ true = ap (λ ps. all_differ (inputs ++ ps)) o.pins ∙ differ_from inputs es d a.1 (ascending (map string_bytes (keys_of es)) (bytes_ascend (keys_of es) ordered)) in
      both (both (both (both (within (length inputs) few) (ap (nat_le 1) count ∙ b.0)) (ap (λ k. nat_le k 8) count ∙ b.1)) o.tables) distinct
    where
      both : {a b : Bool} → a ≡ true → b ≡ true → (a && b) ≡ true
      both x y = ap₂ (λ a b. a && b) x y

      within : (n : ℕ) → n ≤ 6 → nat_le n 6 ≡ true
      within n h = grind (arith, nat_tests)

  pub fit : (r : Result (Vec OutputFn Global) FuncFault) → GivesValue (λ (v : Vec OutputFn Global). v.items) (outputs_of m inputs (members_view es)) r → IfOk r (λ v. all_differ inputs ≡ true → is_master inputs v.items ≡ true)
  fit (Ok v) g = makes v.items g
  fit (Err e) g = tt
