-- Outputs of gates without inputs, by number and by name
use Rattle.std.proofs.Common.{◌≡◌, ◌↔◌, ℕ, ◌-◌, ◌<◌, ◌^◌, ◌==◌, Bool, true, false, cond, List, [], ◌∷◌, map, length, get_or, Some, None, refl, sym, ap, ◌∙◌, arith, slice_get}
use Rattle.std.specs.Option.{option_map}
use Rattle.std.specs.List.{range_with_len}
use Rattle.std.specs.FinMap.{get}
use Rattle.std.proofs.lemmas.Bool.{eqb-true}
use Rattle.std.proofs.lemmas.Option.{slice_get_within, get_or_from_slice_get}
use Rattle.eco_func.specs.declared.output.OutputFn.{OutputFn}
use Rattle.eco_func.specs.Tables.{TruthTable, at}
use Rattle.eco_func.specs.Masters.{MasterTables}
use Rattle.eco_net.specs.declared.kind.Kind.{Kind}
use Rattle.eco_net.specs.declared.kind.Kind.TheVariants.{Gate, Boxed}
use Rattle.eco_net.specs.Netlist.{Name, Component, Role, GateOutput, pins_of, input_names, input_nets, HasRows}
use Rattle.eco_net.specs.Listing.{bits_of, given_kind}
use Rattle.eco_net.proofs.Basics.{same_Some, not_None, same_head}
use Rattle.eco_net.proofs.Places.{at_place}
use Rattle.eco_net.proofs.MasterPins.{gate_length}
use Rattle.eco_net.proofs.KindPins.{output_at, output_pin}
use Rattle.eco_net.proofs.GateNames.{has_at, box_outside}
use Rattle.eco_net.proofs.GateTables.{table_inputs}
use Rattle.eco_base.specs.Constants.{constant_at}
use Rattle.eco_base.proofs.Lists.{row_at}

nil_of : {A : Type 0} (xs : List A) → length xs ≡ 0 → xs ≡ []
nil_of [] e = refl
nil_of (x ∷ xs) e = absurd (omega (arith, e))

nil_of_map : {A B : Type 0} (f : A → B) (xs : List A) → map f xs ≡ [] → xs ≡ []
nil_of_map f [] e = refl
nil_of_map f (x ∷ xs) e = absurd (cc)

same_rows : {t u : List Bool} → GateOutput t ≡ GateOutput u → t ≡ u
same_rows e = cc

pub no_inputs : (x : Component) → input_nets x ≡ [] ↔ input_names x.kind ≡ []
no_inputs x = (λ e. nil_of_map (get x.joined) (input_names x.kind) e, λ e. ap (map (get x.joined)) e)

one_bit : (t : TruthTable) → t.inputs ≡ 0 → bits_of t ≡ at t 0 ∷ []
one_bit t e = ap (λ n. map (at t) (range_with_len 0 (2 ^ n))) e

module _ (m : MasterTables) (none : m.inputs ≡ []) (rows : HasRows (given_kind (Gate m))) where
  output_is : (k : ℕ) (o : OutputFn) → slice_get m.outputs k ≡ Some o → slice_get (pins_of (given_kind (Gate m))) k ≡ Some (output_pin o)
  output_is k o e =
      let z : length m.inputs ≡ 0 = ap length none in
      let h : k < length m.outputs = slice_get_within m.outputs k o e in
      let s : k - length m.inputs ≡ k = omega (arith, z) in
      output_at m m.inputs m.outputs refl refl k o (omega (arith, z)) (omega (arith, h, gate_length m))
      ∙ ap (λ j. Some (output_pin (get_or m.outputs j o))) s
      ∙ ap (λ x. Some (output_pin x)) (get_or_from_slice_get m.outputs k o o e)

  role_of_output : (k : ℕ) (o : OutputFn) (p : Name × Role) → slice_get m.outputs k ≡ Some o → slice_get (pins_of (given_kind (Gate m))) k ≡ Some p → p.1 ≡ GateOutput (at o.table 0 ∷ [])
  role_of_output k o p e f =
      let is = output_is k o e in
      let few : o.table.inputs ≡ length m.inputs = table_inputs (Gate m) k o.table rows (ap (option_map (λ q. q.1)) is) in
      ap (λ (q : Name × Role). q.1) (same_Some (sym f ∙ is)) ∙ ap GateOutput (one_bit o.table (few ∙ ap length none))

pub constant_named : (kind : Kind) (k : ℕ) (p : Name × Role) (b : Bool) → HasRows (given_kind kind) → slice_get (pins_of (given_kind kind)) k ≡ Some p → constant_at kind k ≡ Some b → (input_names (given_kind kind) ≡ []) × (p.1 ≡ GateOutput (b ∷ []))
constant_named (Boxed ps) k p b rows f e = absurd (not_None (sym e))
constant_named (Gate m) k p b rows f e = go (length m.inputs == 0) refl e
  where
    go : (t : Bool) → (length m.inputs == 0) ≡ t → cond t (option_map (λ o. at o.table 0) (slice_get m.outputs k)) None ≡ Some b → (m.inputs ≡ []) × (p.1 ≡ GateOutput (b ∷ []))
    go false s e = absurd (not_None (sym e))
    go true s e =
        let none = nil_of m.inputs (eqb-true (length m.inputs) 0 s) in
        let w = row_at (λ (o : OutputFn). at o.table 0) (slice_get m.outputs k) b e in
        (none, role_of_output m none rows k w.0 p w.1 f ∙ ap (λ v. GateOutput (v ∷ [])) w.2)

pub named_constant : (kind : Kind) (k : ℕ) (p : Name × Role) (b : Bool) → HasRows (given_kind kind) → slice_get (pins_of (given_kind kind)) k ≡ Some p → input_names (given_kind kind) ≡ [] → p.1 ≡ GateOutput (b ∷ []) → constant_at kind k ≡ Some b
named_constant (Boxed ps) k p b rows f none e = absurd (box_outside ps p (has_at (pins_of (given_kind (Boxed ps))) k p f) (b ∷ []) e)
named_constant (Gate m) k p b rows f none e =
    let h : k < length m.outputs = omega (arith, slice_get_within (pins_of (given_kind (Gate m))) k p f, gate_length m, ap length none) in
    let o = at_place m.outputs k h in
    let v : at o.0.table 0 ≡ b = same_head (same_rows (sym (role_of_output m none rows k o.0 p o.1 f) ∙ e)) in
    ap (λ xs. cond (length xs == 0) (option_map (λ (o : OutputFn). at o.table 0) (slice_get m.outputs k)) None) none
    ∙ ap (option_map (λ (o : OutputFn). at o.table 0)) o.1
    ∙ ap Some v
