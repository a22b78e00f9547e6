-- What the type of a master keeps of a gate's pins
use Rattle.std.proofs.Common.{◌≡◌, ℕ, zero, suc, ◌+◌, ◌<◌, ◌≤◌, ◌^◌, ◌&&◌, ◌||◌, not, inl, inr, Bool, true, false, List, [], ◌∷◌, ◌++◌, map, length, Some, refl, sym, ap, ◌∙◌, arith, slice_get, length-append, IsTrue, ◌==◌, nat_le, true≢false}
use Rattle.std.specs.List.{IsDistinct, list_any, list_all, range_with_len}
use Rattle.std.specs.Str.{bytes_eq}
use Rattle.std.specs.Ordering.{eq_by_cmp}
use Rattle.std.proofs.lemmas.List.FromFn.{length-range_with_len}
use Rattle.std.proofs.lemmas.List.{map-append, length-map}
use Rattle.std.proofs.lemmas.Slice.Eq.{bytes_eq-Decides}
use Rattle.std.proofs.lemmas.Bool.{eqb-true, leb-true}
use Rattle.eco_common.specs.declared.geometry.Dir.{Dir}
use Rattle.eco_func.specs.declared.output.OutputFn.{OutputFn}
use Rattle.eco_func.specs.Tables.{at}
use Rattle.eco_func.specs.Masters.{MasterTables, is_master, all_differ, pins as master_pins}
use Rattle.eco_net.specs.declared.kind.BoxPin.{BoxPin}
use Rattle.eco_net.specs.declared.kind.Kind.TheVariants.{Gate as GivenGate, Boxed as GivenBox}
use Rattle.eco_net.specs.Netlist.{Name, name_cmp, Role, GateInput, GateOutput, BoxedPin, pins_of}
use Rattle.eco_net.specs.Listing.{AreDistinctNames, bits_of, given_kind}
use Rattle.eco_net.specs.Kept.{IsKind}
use Rattle.eco_net.proofs.Basics.{Has, has_from_contains, same_Some, not_None}
use Rattle.eco_net.proofs.Places.{apart_distinct}

first_so : (b c : Bool) → (b && c) ≡ true → b ≡ true
first_so true c e = refl
first_so false c e = e

second_so : (b c : Bool) → (b && c) ≡ true → c ≡ true
second_so true c e = e
second_so false c e = absurd (true≢false (sym e))

-- ---- distinct pins

not_any : (n : Name) (ns : List Name) (j : ℕ) → not (list_any (bytes_eq n) ns) ≡ true → slice_get ns j ≡ Some n → ⊥
not_any n [] j h e = not_None (sym e)
not_any n (m ∷ ns) j h e = go (bytes_eq n m) refl j (λ k f g. not_any n ns k f g) h e
  where
    go : (b : Bool) → bytes_eq n m ≡ b → (j : ℕ) → ((k : ℕ) → not (list_any (bytes_eq n) ns) ≡ true → slice_get ns k ≡ Some n → ⊥) → not (b || list_any (bytes_eq n) ns) ≡ true → slice_get (m ∷ ns) j ≡ Some n → ⊥
    go true s j r h e = true≢false (sym h)
    go false s zero r h e = true≢false (sym ((bytes_eq-Decides n m).1 (sym (same_Some e))) ∙ s)
    go false s (suc j) r h e = r j h e

apart_differ : (ns : List Name) → all_differ ns ≡ true → AreDistinctNames ns
apart_differ [] d i j n e f = absurd (not_None (sym e))
apart_differ (m ∷ ns) d zero zero n e f = refl
apart_differ (m ∷ ns) d zero (suc j) n e f = absurd (not_any m ns j (first_so _ _ d) (f ∙ sym e))
apart_differ (m ∷ ns) d (suc i) zero n e f = absurd (not_any m ns i (first_so _ _ d) (e ∙ sym f))
apart_differ (m ∷ ns) d (suc i) (suc j) n e f = ap suc (apart_differ ns (second_so (not (list_any (bytes_eq m) ns)) _ d) i j n e f)

input_names : (ns : List Name) → map (λ p. p.0) (map {B = Name × Role} (λ p. (p, GateInput)) ns) ≡ ns
input_names [] = refl
input_names (n ∷ ns) = ap (λ xs. n ∷ xs) (input_names ns)

output_names : (os : List OutputFn) → map (λ p. p.0) (map {B = Name × Role} (λ o. (o.0, GateOutput o.1)) (map {B = Name × List Bool} (λ o. (o.pin, bits_of o.table)) os)) ≡ map (λ o. o.pin) os
output_names [] = refl
output_names (o ∷ os) = ap (λ xs. o.pin ∷ xs) (output_names os)

pub gate_names : (m : MasterTables) → map (λ p. p.0) (pins_of (given_kind (GivenGate m))) ≡ master_pins m.inputs m.outputs
gate_names m =
    map-append (λ p. p.0) (map {B = Name × Role} (λ p. (p, GateInput)) m.inputs) _
    ∙ (λ i. input_names m.inputs i ++ output_names m.outputs i)

-- ---- tables with their rows

rows_of : (k : ℕ) (os : List OutputFn) → list_all (λ o. o.table.inputs == k) os ≡ true → (o : Name × List Bool) → Has (map {B = Name × List Bool} (λ o. (o.pin, bits_of o.table)) os) o → length o.1 ≡ 2 ^ k
rows_of k [] h o i = absurd i
rows_of k (x ∷ os) h o (inl e) =
    ap (λ (p : Name × List Bool). length p.1) (sym e)
    ∙ length-map (range_with_len 0 (2 ^ x.table.inputs)) (at x.table)
    ∙ length-range_with_len 0 (2 ^ x.table.inputs)
    ∙ ap (λ n. 2 ^ n) (eqb-true x.table.inputs k (first_so _ _ h))
rows_of k (x ∷ os) h o (inr i) = rows_of k os (second_so (x.table.inputs == k) _ h) o i

-- ---- the parts of the test for a master

pub record Parts (ins : List Name) (outs : List OutputFn) : Type 0 where
  pub inputs : length ins ≤ 6
  pub some : 1 ≤ length outs
  pub outputs : length outs ≤ 8
  pub tables : list_all (λ o. o.table.inputs == length ins) outs ≡ true
  pub differ : all_differ (master_pins ins outs) ≡ true

pub parts : (ins : List Name) (outs : List OutputFn) → is_master ins outs ≡ true → Parts ins outs
parts ins outs h =
    let a = nat_le (length ins) 6 in
    let b = nat_le 1 (length outs) in
    let c = nat_le (length outs) 8 in
    let d = list_all (λ o. o.table.inputs == length ins) outs in
    let h4 : (a && b && c && d) ≡ true = first_so (a && b && c && d) _ h in
    let h3 : (a && b && c) ≡ true = first_so (a && b && c) d h4 in
    let h2 : (a && b) ≡ true = first_so (a && b) c h3 in
    record {
      inputs = leb-true (length ins) 6 (first_so a b h2);
      some = leb-true 1 (length outs) (second_so a b h2);
      outputs = leb-true (length outs) 8 (second_so (a && b) c h3);
      tables = second_so (a && b && c) d h4;
      differ = second_so (a && b && c && d) _ h;
    }

pub gate_length : (m : MasterTables) → length (pins_of (given_kind (GivenGate m))) ≡ length m.inputs + length m.outputs
gate_length m =
    sym (length-map (pins_of (given_kind (GivenGate m))) (λ p. p.0)) ∙ ap length (gate_names m) ∙ length-append m.inputs (map (λ o. o.pin) m.outputs) ∙ ap (λ n. length m.inputs + n) (length-map m.outputs (λ o. o.pin))

pub gate_is_kind : (m : MasterTables) → IsTrue (is_master m.inputs m.outputs) → IsKind (given_kind (GivenGate m))
gate_is_kind m h =
    let p = parts m.inputs m.outputs h in
    let l = gate_length m in
    record {
      apart = λ i j n e f. apart_differ (master_pins m.inputs m.outputs) p.differ i j n (ap (λ ns. slice_get ns i) (sym (gate_names m)) ∙ e) (ap (λ ns. slice_get ns j) (sym (gate_names m)) ∙ f);
      few = omega (arith, p.inputs, p.outputs, l);
      rows = λ o c. rows_of (length m.inputs) m.outputs p.tables o (has_from_contains _ o c);
    }

box_names : (ps : List BoxPin) → map (λ p. p.0) (map {B = Name × Role} (λ p. (p.0, BoxedPin p.1)) (map {B = Name × Dir} (λ p. (p.name, p.dir)) ps)) ≡ map (λ p. p.name) ps
box_names [] = refl
box_names (p ∷ ps) = ap (λ xs. p.name ∷ xs) (box_names ps)

pub box_length : (ps : List BoxPin) → length (pins_of (given_kind (GivenBox ps))) ≡ length ps
box_length ps = sym (length-map (pins_of (given_kind (GivenBox ps))) (λ p. p.0)) ∙ ap length (box_names ps) ∙ length-map ps (λ p. p.name)

pub box_is_kind : (ps : List BoxPin) → IsDistinct (eq_by_cmp name_cmp) (map (λ p. p.name) ps) → length ps < 2 ^ 32 → IsKind (given_kind (GivenBox ps))
box_is_kind ps d h =
    let l = box_length ps in
    record {
      apart = λ i j n e f. apart_distinct (map (λ p. p.name) ps) d i j n (ap (λ ns. slice_get ns i) (sym (box_names ps)) ∙ e) (ap (λ ns. slice_get ns j) (sym (box_names ps)) ∙ f);
      few = omega (arith, h, l);
      rows = tt;
    }
