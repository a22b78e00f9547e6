-- A gate's tables are over its inputs, and what one gives at some bits
use Rattle.std.proofs.Common.{◌≡◌, ℕ, ◌^◌, ◌<◌, Bool, true, false, List, [], ◌∷◌, map, length, Option, Some, None, refl, sym, ap, ◌∙◌, subst, arith, slice_get, ⊎_elim}
use Rattle.std.specs.Option.{option_map, unwrap_or}
use Rattle.std.proofs.Math.Nat.{pow-suc}
use Rattle.std.proofs.lemmas.Bool.{cases_order}
use Rattle.std.proofs.lemmas.Nat.{pow_below}
use Rattle.std.proofs.lemmas.Option.{unwrap_or-slice_get}
use Rattle.std.proofs.lemmas.List.FromFn.{length-map-range_with_len, get_or-map-range_with_len}
use Rattle.eco_func.specs.Tables.{TruthTable, at, row, look}
use Rattle.eco_net.specs.declared.kind.Kind.{Kind}
use Rattle.eco_net.specs.declared.kind.Kind.TheVariants.{Gate, Boxed}
use Rattle.eco_net.specs.Netlist.{Name, Role, GateInput, GateOutput, pins_of, HasRows}
use Rattle.eco_net.specs.Valuation.{table_value}
use Rattle.eco_net.specs.Listing.{Listing, bits_of, given_kind}
use Rattle.eco_net.specs.ByNumber.{role_at}
use Rattle.eco_net.specs.Gates.{input_count, inputs_at}
use Rattle.eco_net.specs.ValuesOf.{bit_of, by_role, computes}
use Rattle.eco_net.proofs.Basics.{Has, same_Some, not_None, contains_from_has, has_of_map, map_agree}
use Rattle.eco_net.proofs.AllPins.{split_has}
use Rattle.eco_net.proofs.GateNames.{has_at, box_outside}
use Rattle.eco_net.proofs.InOrder.{ByInputs}

-- ---- the value of a table

pub row_within : (bits : List Bool) → row bits < 2 ^ length bits
row_within [] = omega arith
row_within (true ∷ bits) = omega (arith, row_within bits, pow-suc 2 (length bits))
row_within (false ∷ bits) = omega (arith, row_within bits, pow-suc 2 (length bits))

pub look_is : (t : TruthTable) (bits : List Bool) → length bits ≡ t.inputs → table_value (bits_of t) bits ≡ look t bits
look_is t bits e = get_or-map-range_with_len (at t) 0 (2 ^ t.inputs) (row bits) (row bits) false (subst (λ n. row bits < 2 ^ n) e (row_within bits)) (omega arith)

-- ---- the inputs of a table

one_power : (a b : ℕ) → 2 ^ a ≡ 2 ^ b → a ≡ b
one_power a b e = ⊎_elim
    (λ s. s)
    (⊎_elim (λ h. absurd (omega (arith, e, pow_below a b h))) (λ h. absurd (omega (arith, e, pow_below b a h))))
    (cases_order a b)

same_rows : {t u : List Bool} → GateOutput t ≡ GateOutput u → t ≡ u
same_rows e = cc

no_table : {t : List Bool} → GateInput ≡ GateOutput t → ⊥
no_table e = cc

some_pin : (k : Kind) (j : ℕ) (r : Role) → option_map (λ p. p.1) (slice_get (pins_of (given_kind k)) j) ≡ Some r → (p : Name × Role) × Has (pins_of (given_kind k)) p × (p.1 ≡ r)
some_pin k j r e = go (slice_get (pins_of (given_kind k)) j) refl e
  where
    go : (o : Option (Name × Role)) → slice_get (pins_of (given_kind k)) j ≡ o → option_map (λ p. p.1) o ≡ Some r → (p : Name × Role) × Has (pins_of (given_kind k)) p × (p.1 ≡ r)
    go None f e = absurd (not_None (sym e))
    go (Some p) f e = (p, has_at (pins_of (given_kind k)) j p f, same_Some e)

-- a gate's table is over all its inputs
pub table_inputs : (k : Kind) (j : ℕ) (t : TruthTable) → HasRows (given_kind k) → option_map (λ p. p.1) (slice_get (pins_of (given_kind k)) j) ≡ Some (GateOutput (bits_of t)) → t.inputs ≡ input_count k
table_inputs (Boxed ps) j t h e = let w = some_pin (Boxed ps) j (GateOutput (bits_of t)) e in absurd (box_outside ps w.0 w.1 (bits_of t) w.2)
table_inputs (Gate m) j t h e =
    let w = some_pin (Gate m) j (GateOutput (bits_of t)) e in
    ⊎_elim
    (λ i. let x = has_of_map {B = Name × Role} (λ p. (p, GateInput)) m.inputs w.0 i in absurd (no_table (ap (λ (p : Name × Role). p.1) x.2 ∙ w.2)))
    (λ i.
    let x = has_of_map {B = Name × Role} (λ o. (o.0, GateOutput o.1)) _ w.0 i in
    let same : x.0.1 ≡ bits_of t = same_rows (ap (λ (p : Name × Role). p.1) x.2 ∙ w.2) in
    one_power t.inputs (length m.inputs) (sym (length-map-range_with_len (at t) 0 (2 ^ t.inputs)) ∙ ap length (sym same) ∙ h x.0 (contains_from_has _ x.0 x.1)))
    (split_has (map {B = Name × Role} (λ p. (p, GateInput)) m.inputs) _ w.0 w.1)

-- ---- what a gate's output computes

pub bits_by_inputs : (L : Listing) → ByInputs L (computes L)
bits_by_inputs L xs ys g h = ap (by_role (role_at (slice_get L.comps g.0.0) g.1)) (map_agree (bit_of xs) (bit_of ys) (inputs_at L g.0.0) (λ j i. same j (λ a e. h a (subst (Has (inputs_at L g.0.0)) e i))))
  where
    same : (j : Option ℕ) → ((a : ℕ) → j ≡ Some a → slice_get xs a ≡ slice_get ys a) → bit_of xs j ≡ bit_of ys j
    same None k = refl
    same (Some a) k = sym (unwrap_or-slice_get xs a false) ∙ ap (λ o. unwrap_or o false) (k a refl) ∙ unwrap_or-slice_get ys a false
