-- A patch gate's pins: their names, and the nets that they are put on one after another
use Rattle.std.proofs.Common.{◌≡◌, ◌≢◌, ℕ, zero, suc, ◌+◌, ◌<◌, ◌≤◌, Bool, true, false, cond, List, [], ◌∷◌, ◌++◌, map, length, take, Some, None, refl, sym, ap, ap₂, ◌∙◌, subst, arith, slice_get, inl, inr, ◌⊎◌, true≢false, zero-add}
use Rattle.std.specs.Prelude.{Result, Ok, Err, OnOk}
use Rattle.std.specs.List.{range_with_len, enumerate_from}
use Rattle.eco_common.specs.declared.memory.Memory.{Memory}
use Rattle.std.specs.Cmp.Lexicographic.{nat_list_cmp_total}
use Rattle.std.specs.FinMap.{FinMap, get, insert, find, from_entries, from_entries_push, same_map}
use Rattle.std.proofs.lemmas.Map.Lookups.{exact_bytes}
use Rattle.std.proofs.lemmas.List.{length-map}
use Rattle.std.proofs.lemmas.List.FromFn.{length-range_with_len, length-enumerate_from}
use Rattle.std.proofs.lemmas.Option.{slice_get_within}
use Rattle.eco_func.specs.declared.output.OutputFn.{OutputFn}
use Rattle.eco_func.specs.Tables.{TruthTable}
use Rattle.eco_func.specs.Masters.{is_master, master}
use Rattle.eco_net.specs.declared.ids.CompId.{CompId}
use Rattle.eco_net.specs.declared.ids.PinRef.TheVariants.{Pin}
use Rattle.eco_net.specs.declared.kind.Kind.{Kind as Given}
use Rattle.eco_net.specs.declared.kind.Kind.TheVariants.{Gate as GivenGate}
use Rattle.eco_net.specs.declared.rows.CompRow.{CompRow}
use Rattle.eco_net.specs.Netlist.{Name, name_cmp, Netlist, Kind, Gate, Component, Role, GateInput, GateOutput, CompPin, pins_of, IsNet}
use Rattle.eco_net.specs.Changes.{with_comp, with_pin_on, on_net}
use Rattle.eco_net.specs.Listing.{Listing, netlist, pins, numbered_pin, given_kind, bits_of, with_joint, IsKnownPin}
use Rattle.eco_net.proofs.Basics.{same_Some, not_None, same_name, cmp_apart, get_same, get_other}
use Rattle.eco_net.proofs.Places.{name_of_row, push_last}
use Rattle.eco_net.proofs.Numbers.{new_pin_known, new_pin_named, same_pin_known, same_pin_named}
use Rattle.eco_patch_laws.specs.Insertion.{input_pin, output_pin, input_pins, patch_name, patch_component}
use Rattle.eco_one_gate.specs.declared.one_gate.OneGate.{OneGate}
use Rattle.eco_one_gate.specs.OneGates.{gate_of}
use Rattle.eco_one_gate.specs.OneSteps.{patch_tables}

-- ---- the master

-- i0 to i5 and out are names of their own
by_count : (n bits : ℕ) → n ≤ 6 → is_master (patch_tables (record { inputs = n; bits = bits })).inputs (patch_tables (record { inputs = n; bits = bits })).outputs ≡ true
by_count zero bits h = refl
by_count (suc zero) bits h = refl
by_count (suc (suc zero)) bits h = refl
by_count (suc (suc (suc zero))) bits h = refl
by_count (suc (suc (suc (suc zero)))) bits h = refl
by_count (suc (suc (suc (suc (suc zero))))) bits h = refl
by_count (suc (suc (suc (suc (suc (suc zero)))))) bits h = refl
by_count (suc (suc (suc (suc (suc (suc (suc n))))))) bits h = absurd (omega (arith, h))

pub patch_is_master : (t : TruthTable) → t.inputs ≤ 6 → is_master (patch_tables t).inputs (patch_tables t).outputs ≡ true
patch_is_master t h = by_count t.inputs t.bits h

pub always_master : (name : Name) (ins : List Name) (outs : List OutputFn) (t : TruthTable) (n : ℕ) → ins ≡ map input_pin (range_with_len 0 n) → outs ≡ (patch_tables t).outputs → n ≡ t.inputs → n ≤ 6 → None ≡ master name ins outs → ⊥
always_master name ins outs t n i o e h none = go _ (is_master ins outs) is none
  where
    is : is_master ins outs ≡ true
    is = ap₂ is_master (i ∙ ap (λ k. map input_pin (range_with_len 0 k)) e) o ∙ patch_is_master t (subst (λ k. k ≤ 6) e h)

    none_some : {X : Type 0} {x : X} → None ≡ Some x → ⊥
    none_some e = cc

    go : {X : Type 0} (x : X) (b : Bool) → b ≡ true → None ≡ cond b (Some x) None → ⊥
    go x true e f = none_some f
    go x false e f = true≢false (sym e)

-- ---- the pins' nets

abbrev pins_from : ℕ → List Name → List (Name × Name)
pins_from a ns = map (λ e. (input_pin e.0, e.1)) (enumerate_from a ns)

pub pins_named : (inputs : List Name) → map (λ e. e.0) (input_pins inputs) ≡ map input_pin (range_with_len 0 (length inputs))
pins_named inputs = from 0 inputs
  where
    from : (a : ℕ) (ns : List Name) → map (λ e. e.0) (pins_from a ns) ≡ map input_pin (range_with_len a (length ns))
    from a [] = refl
    from a (n ∷ ns) = ap (λ ps. input_pin a ∷ ps) (from (a + 1) ns ∙ ap (λ b. map input_pin (range_with_len b (length ns))) (omega arith))

same_byte : (a b : ℕ) (xs ys : Name) → a ∷ xs ≡ b ∷ ys → a ≡ b
same_byte a b xs ys e = cc

same_second : (a b c d : ℕ) (xs ys : Name) → a ∷ b ∷ xs ≡ c ∷ d ∷ ys → b ≡ d
same_second a b c d xs ys e = cc

input_apart : (i j : ℕ) → i ≢ j → input_pin i ≢ input_pin j
input_apart i j h e = h (omega (arith, same_second 105 (48 + i) 105 (48 + j) [] [] e))

output_apart : (i : ℕ) → output_pin ≢ input_pin i
output_apart i e = absurd (omega (arith, same_byte 111 105 (117 ∷ 116 ∷ []) ((48 + i) ∷ []) e))

-- no pin has the name of one at a place past it
not_among : (a b : ℕ) (ns : List Name) (n : ℕ) → a + n ≤ b → find name_cmp (input_pin b) (take n (pins_from a ns)) ≡ None
not_among a b [] zero h = refl
not_among a b [] (suc n) h = refl
not_among a b (m ∷ ns) zero h = refl
not_among a b (m ∷ ns) (suc n) h =
    ap (λ t. cond t (Some m) (find name_cmp (input_pin b) (take n (pins_from (a + 1) ns)))) (cmp_apart (input_pin b) (input_pin a) (input_apart b a (λ e. absurd (omega (arith, e, h)))))
    ∙ not_among (a + 1) b ns n (omega (arith, h))

no_output : (a : ℕ) (ns : List Name) → find name_cmp output_pin (pins_from a ns) ≡ None
no_output a [] = refl
no_output a (m ∷ ns) =
    ap (λ t. cond t (Some m) (find name_cmp output_pin (pins_from (a + 1) ns))) (cmp_apart output_pin (input_pin a) (output_apart a))
    ∙ no_output (a + 1) ns

one_more : (a : ℕ) (ns : List Name) (n : ℕ) (m : Name) → slice_get ns n ≡ Some m → take (suc n) (pins_from a ns) ≡ take n (pins_from a ns) ++ (input_pin (a + n), m) ∷ []
one_more a [] n m e = absurd (not_None (sym e))
one_more a (x ∷ ns) zero m e = ap₂ (λ b y. let p : Name × Name = (input_pin b, y) in p ∷ []) (omega arith) (same_Some e)
one_more a (x ∷ ns) (suc n) m e =
    ap (λ ps. (input_pin a, x) ∷ ps) (one_more (a + 1) ns n m e ∙ ap (λ b. take n (pins_from (a + 1) ns) ++ (input_pin b, m) ∷ []) (omega arith))

-- ---- the gate in the netlist

abbrev pub patch : Name
patch = patch_name [] []

abbrev gate_on : Kind → List (Name × Name) → Component
gate_on kind es = record { kind = kind; place = None; joined = from_entries es }

-- The netlist is the base with the gate, whose pins are on these nets. The gate's pins have these numbers and names.
pub record IsPatching (base : Netlist) (L : Listing) (gate : CompId) (kind : Kind) (es : List (Name × Name)) : Type 0 where
  pub names : netlist L ≡ record base { comps = insert base.comps patch (gate_on kind es) }
  pub pins : (k : ℕ) (p : Name × Role) → slice_get (pins_of kind) k ≡ Some p → IsKnownPin L (Pin gate k) × (numbered_pin L (Pin gate k) ≡ CompPin patch p.0)

over : {X : Type 0} (m : FinMap name_cmp X) (k : Name) (v w : X) → insert (insert m k v) k w ≡ insert m k w
over {X = X} m k v w = same_map nat_list_cmp_total exact_bytes _ _ (λ q. at q (same_name q k))
  where
    at : (q : Name) → (q ≡ k) ⊎ (q ≢ k) → get (insert (insert m k v) k w) q ≡ get (insert m k w) q
    at q (inl s) = ap (get (insert (insert m k v) k w)) s ∙ get_same (insert m k v) k w ∙ sym (get_same m k w) ∙ ap (get (insert m k w)) (sym s)
    at q (inr n) = get_other (insert m k v) k w q n ∙ get_other m k v q n ∙ sym (get_other m k w q n)

-- the gate is there with its unconnected pins
pub patch_begins : (L M : Listing) (gate : CompId) (given : Given) (row : CompRow)
    → M ≡ record L { comps = L.comps ++ row ∷ [] } → row.name ≡ patch → row.kind ≡ given → gate.0 ≡ length L.comps → netlist M ≡ with_comp (netlist L) patch (given_kind given) None
    → IsPatching (netlist L) M gate (given_kind given) []
patch_begins L M gate given row new name kind number named = record {
  names = named;
  pins = λ k p e.
      let at : slice_get (pins row) k ≡ Some p = ap (λ g. slice_get (pins_of (given_kind g)) k) kind ∙ e in
      let id : record { 0 = length L.comps } ≡ gate = λ i. record { 0 = sym number i } in
      subst (λ (d : CompId). IsKnownPin M (Pin d k) × (numbered_pin M (Pin d k) ≡ CompPin patch p.0)) id
      (subst (λ N. IsKnownPin N (Pin (record { 0 = length L.comps }) k) × (numbered_pin N (Pin (record { 0 = length L.comps }) k) ≡ CompPin patch p.0)) (sym new)
      (new_pin_known L row k (slice_get_within (pins row) k p at), new_pin_named L row k p at ∙ ap (λ n. CompPin n p.0) name));
}

-- one of its pins more is on a net
pub patch_more : (base : Netlist) (L M : Listing) (gate : CompId) (kind : Kind) (es : List (Name × Name)) (k n : ℕ) (p : Name × Role) (net : Name)
    → IsPatching base L gate kind es → slice_get (pins_of kind) k ≡ Some p → find name_cmp p.0 es ≡ None
    → M ≡ record L { comps = with_joint L.comps gate.0 k n } → netlist M ≡ with_pin_on (netlist L) (numbered_pin L (Pin gate k)) net
    → IsPatching base M gate kind (es ++ (p.0, net) ∷ [])
patch_more base L M gate kind es k n p net is at new rows named = record {
  names =
      named
      ∙ ap (λ q. with_pin_on (netlist L) q net) (is.pins k p at).1
      ∙ ap (λ N. with_pin_on N (CompPin patch p.0) net) is.names
      ∙ ap (λ o. record base { comps = on_net (insert base.comps patch (gate_on kind es)) patch p.0 net o }) (get_same base.comps patch (gate_on kind es))
      ∙ ap (λ m. record base { comps = m }) (over base.comps patch (gate_on kind es) (record (gate_on kind es) { joined = insert (from_entries es) p.0 net }))
      ∙ ap (λ (j : FinMap name_cmp Name). record base { comps = insert base.comps patch (record { kind = kind; place = None; joined = j }) }) (sym (from_entries_push nat_list_cmp_total exact_bytes es p.0 net new));
  pins = λ j q e.
      let old = is.pins j q e in
      subst (λ N. IsKnownPin N (Pin gate j) × (numbered_pin N (Pin gate j) ≡ CompPin patch q.0)) (sym rows)
      (same_pin_known L gate.0 k (Some n) (Pin gate j) old.0, same_pin_named L gate.0 k (Some n) (Pin gate j) ∙ old.1);
}

-- ---- the gate's pins, one after another

in_front : {A : Type 0} (xs ys : List A) (k : ℕ) (z : A) → slice_get xs k ≡ Some z → slice_get (xs ++ ys) k ≡ Some z
in_front [] ys k z e = absurd (not_None (sym e))
in_front (x ∷ xs) ys zero z e = e
in_front (x ∷ xs) ys (suc k) z e = in_front xs ys k z e

abbrev pub patch_kind : TruthTable → Kind
patch_kind t = given_kind (GivenGate (patch_tables t))

input_at : (t : TruthTable) (k : ℕ) → k < t.inputs → slice_get (pins_of (patch_kind t)) k ≡ Some (input_pin k, GateInput)
input_at t k h = in_front (map {B = Name × Role} (λ p. (p, GateInput)) (map input_pin (range_with_len 0 t.inputs))) ((output_pin, GateOutput (bits_of t)) ∷ []) k (input_pin k, GateInput)
    (name_of_row {B = Name × Role} (λ p. (p, GateInput)) (map input_pin (range_with_len 0 t.inputs)) k (input_pin k)
    (name_of_row input_pin (range_with_len 0 t.inputs) k k (in_range 0 t.inputs k h ∙ ap Some (zero-add k))))
  where
    in_range : (a n k : ℕ) → k < n → slice_get (range_with_len a n) k ≡ Some (a + k)
    in_range a zero k h = absurd (omega (arith, h))
    in_range a (suc n) zero h = ap Some (omega arith)
    in_range a (suc n) (suc k) h = in_range (a + 1) n k (omega (arith, h)) ∙ ap Some (omega arith)

output_at : (t : TruthTable) → slice_get (pins_of (patch_kind t)) t.inputs ≡ Some (output_pin, GateOutput (bits_of t))
output_at t =
    ap (slice_get (pins_of (patch_kind t))) (sym count)
    ∙ push_last (map {B = Name × Role} (λ p. (p, GateInput)) (map input_pin (range_with_len 0 t.inputs))) (output_pin, GateOutput (bits_of t))
  where
    count : length (map {B = Name × Role} (λ p. (p, GateInput)) (map input_pin (range_with_len 0 t.inputs))) ≡ t.inputs
    count = length-map {B = Name × Role} (map input_pin (range_with_len 0 t.inputs)) (λ p. (p, GateInput)) ∙ length-map (range_with_len 0 t.inputs) input_pin ∙ length-range_with_len 0 t.inputs

pub input_known : (base : Netlist) (L : Listing) (gate : CompId) (t : TruthTable) (es : List (Name × Name)) (k : ℕ) → IsPatching base L gate (patch_kind t) es → k < t.inputs → IsKnownPin L (Pin gate k)
input_known base L gate t es k is h = (is.pins k (input_pin k, GateInput) (input_at t k h)).0

pub output_known : (base : Netlist) (L : Listing) (gate : CompId) (t : TruthTable) (es : List (Name × Name)) → IsPatching base L gate (patch_kind t) es → IsKnownPin L (Pin gate t.inputs)
output_known base L gate t es is = (is.pins t.inputs (output_pin, GateOutput (bits_of t)) (output_at t)).0

pub input_more : (base : Netlist) (L M : Listing) (gate : CompId) (t : TruthTable) (inputs : List Name) (k n : ℕ) (net : Name)
    → IsPatching base L gate (patch_kind t) (take k (input_pins inputs)) → k < t.inputs → slice_get inputs k ≡ Some net
    → M ≡ record L { comps = with_joint L.comps gate.0 k n } → netlist M ≡ with_pin_on (netlist L) (numbered_pin L (Pin gate k)) net
    → IsPatching base M gate (patch_kind t) (take (k + 1) (input_pins inputs))
input_more base L M gate t inputs k n net is h at rows named =
    let first : 0 + k ≡ k = omega arith in
    let next : suc k ≡ k + 1 = omega arith in
    subst (IsPatching base M gate (patch_kind t)) (sym (one_more 0 inputs k net at ∙ ap (λ b. take k (input_pins inputs) ++ (input_pin b, net) ∷ []) first) ∙ ap (λ j. take j (input_pins inputs)) next)
    (patch_more base L M gate (patch_kind t) (take k (input_pins inputs)) k n (input_pin k, GateInput) net is (input_at t k h) (not_among 0 k inputs k (omega arith)) rows named)

pub output_more : (base : Netlist) (L M : Listing) (gate : CompId) (one : OneGate) (n : ℕ)
    → length one.inputs.items ≡ one.table.inputs
    → IsPatching base L gate (patch_kind one.table) (input_pins one.inputs.items)
    → M ≡ record L { comps = with_joint L.comps gate.0 one.table.inputs n } → netlist M ≡ with_pin_on (netlist L) (numbered_pin L (Pin gate one.table.inputs)) one.output
    → netlist M ≡ record base { comps = insert base.comps patch (patch_component (gate_of one) None) }
output_more base L M gate one n rows is new named =
    (patch_more base L M gate (patch_kind one.table) (input_pins one.inputs.items) one.table.inputs n (output_pin, GateOutput (bits_of one.table)) one.output is (output_at one.table) (no_output 0 one.inputs.items) new named).names
    ∙ ap (λ ins. record base { comps = insert base.comps patch (record { kind = Gate ins ((output_pin, bits_of one.table) ∷ []); place = None; joined = from_entries (input_pins one.inputs.items ++ (output_pin, one.output) ∷ []) }) })
    (sym (pins_named one.inputs.items ∙ ap (λ k. map input_pin (range_with_len 0 k)) rows))

-- the nets are those of the base
pub its_net : (base : Netlist) (L : Listing) (gate : CompId) (kind : Kind) (es : List (Name × Name)) (n : Name) → IsPatching base L gate kind es → IsNet base n → IsNet (netlist L) n
its_net base L gate kind es n is h = (h.0, ap (λ N. get N.nets n) is.names ∙ h.1)

-- where the last pin was put on its net, the gate stands whole
pub patch_ends : (base : Netlist) (L M : Listing) (gate : CompId) (one : OneGate) (r : Result (Unit {0}) Memory)
    → length one.inputs.items ≡ one.table.inputs
    → IsPatching base L gate (patch_kind one.table) (input_pins one.inputs.items)
    → OnOk r ((n : ℕ) × (M ≡ record L { comps = with_joint L.comps gate.0 one.table.inputs n }))
    → OnOk r (netlist M ≡ with_pin_on (netlist L) (numbered_pin L (Pin gate one.table.inputs)) one.output)
    → OnOk r (netlist M ≡ record base { comps = insert base.comps patch (patch_component (gate_of one) None) })
patch_ends base L M gate one (Ok x) rows is new named = output_more base L M gate one new.0 rows is new.1 named
patch_ends base L M gate one (Err e) rows is new named = tt

pub pins_count : (inputs : List Name) → length (input_pins inputs) ≡ length inputs
pins_count inputs = length-map {B = Name × Name} (enumerate_from 0 inputs) (λ e. (input_pin e.0, e.1)) ∙ length-enumerate_from 0 inputs
