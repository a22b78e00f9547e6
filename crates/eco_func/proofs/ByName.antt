-- Masters of a document have its names.
use Rattle.std.proofs.Common.{◌≡◌, ℕ, ◌<◌, ◌≤◌, length, true, false, nat_le, arith, if◌then◌else◌, List, [], ◌∷◌, map, Some, Result, Ok, Err, String, Global, string_bytes, nat_cmp, Less, ap, ◌∙◌, sym, subst, codes}
use Rattle.std.specs.Cmp.Lexicographic.{slice_cmp}
use Rattle.std.specs.List.{AllByRecursion}
use Rattle.std.specs.List.Sorted.{IsStrictlySortedBy}
use Rattle.std.specs.Map.{keys_of}
use Rattle.std.specs.String.{string_cmp}
use Rattle.std.specs.Str.{IsUtf8}
use Rattle.std.proofs.lemmas.Bool.Decides.{nat_tests}
use Rattle.eco_common.specs.declared.limits.TheConstants.{MAX_MASTERS}
use Rattle.toml.specs.Data.{Data, as_table}
use Rattle.toml.specs.Parse.{parse_document}
use Rattle.toml.specs.View.{view, members_view}
use Rattle.toml.specs.declared.value.Value.{Value}
use Rattle.eco_func.specs.declared.fault.FuncFault.{FuncFault}
use Rattle.eco_func.specs.declared.fault.FuncFault.TheVariants.{BadToml, BadField, TooManyInputs, BadTable, BadExpression, UnknownInput, TooManyMasters, Memory}
use Rattle.eco_func.specs.Masters.{MasterTables}
use Rattle.eco_func.specs.FunctionsFile.{IsByName, GivesValue, ReadsFunctions, master_of, master_in, masters_of, functions_of, inputs_of, outputs_in, no_other, or_fault, and_more, ◌>>=◌}
use Rattle.eco_func.proofs.DocumentLemmas.{member_count-view, bound, same_ok}
use Rattle.eco_func.proofs.Sound.{Sound, sound_masters}

all_below : (k : String Global) (ks : List (String Global)) → AllByRecursion (λ y. string_cmp k y ≡ Less) ks → AllByRecursion (λ y. slice_cmp nat_cmp (string_bytes k) y ≡ Less) (map string_bytes ks)
all_below k [] h = h
all_below k (x ∷ ks) h = (h.0, all_below k ks h.1)

pub bytes_ascend : (ks : List (String Global)) → IsStrictlySortedBy string_cmp ks → IsStrictlySortedBy (slice_cmp nat_cmp) (map string_bytes ks)
unfolding IsStrictlySortedBy
bytes_ascend [] h = h
bytes_ascend (k ∷ ks) h = (all_below k ks h.0, bytes_ascend ks h.1)

-- a master has the name that it was read under
named : (name : List ℕ) (d : Data) (m : MasterTables) → master_of name d ≡ Ok m → m.name ≡ name
named name d m h =
    let p = bound (or_fault (BadField name (codes "inputs")) (as_table d)) (master_in name d) m h in
    let q = bound (inputs_of name d) (λ inputs. outputs_in name d inputs >>= (λ outputs. no_other name p.0 >>= (λ none. Ok (record { name = name; inputs = inputs; outputs = outputs })))) m p.2 in
    let r = bound (outputs_in name d q.0) (λ outputs. no_other name p.0 >>= (λ none. Ok (record { name = name; inputs = q.0; outputs = outputs }))) m q.2 in
    let s = bound (no_other name p.0) (λ none. Ok (record { name = name; inputs = q.0; outputs = r.0 })) m r.2 in
    ap (λ x. x.name) (sym (same_ok (record { name = name; inputs = q.0; outputs = r.0 }) m s.2))

names_of : (es : List (String Global × Value)) (ms : List MasterTables) → masters_of (members_view es) ≡ Ok ms → map (λ m. m.name) ms ≡ map string_bytes (keys_of es)
names_of [] ms h = ap (map (λ m. m.name)) (sym (same_ok [] ms h))
names_of (e ∷ es) ms h =
    let p = bound (master_of (string_bytes e.0) (view e.1)) (λ m. and_more m (masters_of (members_view es))) ms h in
    let q = bound (masters_of (members_view es)) (λ more. Ok (p.0 ∷ more)) ms p.2 in
    ap (map (λ m. m.name)) (sym (same_ok (p.0 ∷ q.0) ms q.2))
    ∙ ap (λ n. n ∷ map (λ m. m.name) q.0) (named (string_bytes e.0) (view e.1) p.0 p.1)
    ∙ ap (λ ns. string_bytes e.0 ∷ ns) (names_of es q.0 q.1)

-- the masters of a document with ascending keys
pub by_name : (es : List (String Global × Value)) (ms : List MasterTables) → IsStrictlySortedBy string_cmp (keys_of es) → masters_of (members_view es) ≡ Ok ms → IsByName ms
by_name es ms ordered h = subst (IsStrictlySortedBy (slice_cmp nat_cmp)) (sym (names_of es ms h)) (bytes_ascend (keys_of es) ordered)

-- ---- the limit

abbrev limited : List (String Global × Value) → ℕ → Result (List MasterTables) FuncFault
limited es n = if nat_le n MAX_MASTERS then masters_of (members_view es) else Err (TooManyMasters n)

pub no_more : (es : List (String Global × Value)) → length es ≤ MAX_MASTERS → functions_of (members_view es) ≡ masters_of (members_view es)
no_more es h = ap (limited es) (member_count-view es) ∙ ap (λ b. if b then masters_of (members_view es) else Err (TooManyMasters (length es))) (within (length es) h)
  where
    within : (n : ℕ) → n ≤ MAX_MASTERS → nat_le n MAX_MASTERS ≡ true
    within n h = grind (arith, nat_tests)

pub too_many : (es : List (String Global × Value)) (n : ℕ) → n ≡ length es → MAX_MASTERS < n → functions_of (members_view es) ≡ Err (TooManyMasters n)
too_many es n count h =
    ap (limited es) (member_count-view es ∙ sym count) ∙ ap (λ b. if b then masters_of (members_view es) else Err (TooManyMasters n)) (beyond n h)
  where
    beyond : (n : ℕ) → MAX_MASTERS < n → nat_le n MAX_MASTERS ≡ false
    beyond n h = grind (arith, nat_tests)

-- a fault of the masters is one of the text
pub reads_fault : {B : Type 0} (look : B → List MasterTables) (text : List ℕ) (es : List (String Global × Value)) → IsUtf8 text → parse_document text ≡ Some (members_view es) → length es ≤ MAX_MASTERS → (e : FuncFault) → GivesValue look (masters_of (members_view es)) (Err e) → ReadsFunctions text (Err e)
reads_fault look text es utf8 written few BadToml g = absurd (subst Sound g (sound_masters (members_view es)))
reads_fault look text es utf8 written few (BadField m x) g = (members_view es, utf8, written, no_more es few ∙ g)
reads_fault look text es utf8 written few (TooManyInputs m) g = (members_view es, utf8, written, no_more es few ∙ g)
reads_fault look text es utf8 written few (BadTable m o) g = (members_view es, utf8, written, no_more es few ∙ g)
reads_fault look text es utf8 written few (BadExpression m o p) g = (members_view es, utf8, written, no_more es few ∙ g)
reads_fault look text es utf8 written few (UnknownInput m o i) g = (members_view es, utf8, written, no_more es few ∙ g)
reads_fault look text es utf8 written few (TooManyMasters n) g = (members_view es, utf8, written, no_more es few ∙ g)
reads_fault look text es utf8 written few Memory g = tt
