-- The pins of a gate and of a box by number
use Rattle.std.proofs.Common.{◌≡◌, ℕ, zero, suc, ◌+◌, ◌-◌, ◌<◌, ◌≤◌, Bool, true, List, [], ◌∷◌, ◌++◌, map, length, get_or, Option, Some, None, refl, sym, ap, ap₂, ◌∙◌, arith, slice_get, is_some, true≢false}
use Rattle.std.specs.Option.{option_map}
use Rattle.std.proofs.lemmas.Option.{slice_get-map, slice_get-get_or}
use Rattle.std.proofs.lemmas.List.{length-map}
use Rattle.eco_func.specs.declared.output.OutputFn.{OutputFn}
use Rattle.eco_func.specs.Masters.{MasterTables}
use Rattle.eco_net.specs.declared.kind.BoxPin.{BoxPin}
use Rattle.eco_net.specs.declared.kind.Kind.TheVariants.{Gate as GivenGate, Boxed as GivenBox}
use Rattle.eco_net.specs.Netlist.{Name, Role, GateInput, GateOutput, BoxedPin, pins_of}
use Rattle.eco_net.specs.Listing.{bits_of, given_kind}
use Rattle.eco_net.proofs.MasterPins.{gate_length, box_length}

pub append_left : {A : Type 0} (xs ys : List A) (k : ℕ) → k < length xs → slice_get (xs ++ ys) k ≡ slice_get xs k
append_left [] ys k h = absurd (omega arith)
append_left (x ∷ xs) ys zero h = refl
append_left (x ∷ xs) ys (suc k) h = append_left xs ys k (omega arith)

pub append_right : {A : Type 0} (xs ys : List A) (k j : ℕ) → k ≡ length xs + j → slice_get (xs ++ ys) k ≡ slice_get ys j
append_right [] ys k j e = let z : k ≡ j = omega (arith, e) in ap (slice_get ys) z
append_right (x ∷ xs) ys zero j e = absurd (omega (arith, e))
append_right (x ∷ xs) ys (suc k) j e = append_right xs ys k j (omega (arith, e))

-- ---- gates

abbrev pub input_pin : Name → Name × Role
input_pin p = (p, GateInput)

abbrev pub output_pin : OutputFn → Name × Role
output_pin o = (o.pin, GateOutput (bits_of o.table))

outputs_are : (os : List OutputFn) → map {B = Name × Role} (λ o. (o.0, GateOutput o.1)) (map {B = Name × List Bool} (λ o. (o.pin, bits_of o.table)) os) ≡ map output_pin os
outputs_are [] = refl
outputs_are (o ∷ os) = ap (λ ps. output_pin o ∷ ps) (outputs_are os)

module _ (m : MasterTables) (ins : List Name) (outs : List OutputFn) (e : ins ≡ m.inputs) (f : outs ≡ m.outputs) where
  abbrev gate_pins : List (Name × Role)
  gate_pins = pins_of (given_kind (GivenGate m))

  gate_pins_are : gate_pins ≡ map input_pin ins ++ map output_pin outs
  gate_pins_are =
      ap (λ ps. map input_pin m.inputs ++ ps) (outputs_are m.outputs)
      ∙ sym (ap₂ (λ i o. map input_pin i ++ map output_pin o) e f)

  pub input_at : (k : ℕ) (d : Name) → k < length ins → slice_get gate_pins k ≡ Some (input_pin (get_or ins k d))
  input_at k d h =
      ap (λ ps. slice_get ps k) gate_pins_are
      ∙ append_left (map input_pin ins) (map output_pin outs) k (omega (arith, h, length-map ins input_pin))
      ∙ slice_get-map input_pin ins k
      ∙ ap (option_map input_pin) (slice_get-get_or ins k d h)

  pub output_at : (k : ℕ) (d : OutputFn) → length ins ≤ k → k < length gate_pins → slice_get gate_pins k ≡ Some (output_pin (get_or outs (k - length ins) d))
  output_at k d h g =
      let l : length gate_pins ≡ length ins + length outs = gate_length m ∙ sym (ap₂ (λ i o. length i + length o) e f) in
      let z : k ≡ length (map input_pin ins) + (k - length ins) = omega (arith, h, length-map ins input_pin) in
      ap (λ ps. slice_get ps k) gate_pins_are
      ∙ append_right (map input_pin ins) (map output_pin outs) k (k - length ins) z
      ∙ slice_get-map output_pin outs (k - length ins)
      ∙ ap (option_map output_pin) (slice_get-get_or outs (k - length ins) d (omega (arith, h, g, l)))

-- ---- boxes

abbrev pub box_pin : BoxPin → Name × Role
box_pin p = (p.name, BoxedPin p.dir)

box_pins_are : (ps : List BoxPin) → pins_of (given_kind (GivenBox ps)) ≡ map box_pin ps
box_pins_are [] = refl
box_pins_are (p ∷ ps) = ap (λ qs. box_pin p ∷ qs) (box_pins_are ps)

pub box_at : (ps qs : List BoxPin) (e : qs ≡ ps) (k : ℕ) (d : BoxPin) → k < length (pins_of (given_kind (GivenBox ps))) → slice_get (pins_of (given_kind (GivenBox ps))) k ≡ Some (box_pin (get_or qs k d))
box_at ps qs e k d h =
    ap (λ xs. slice_get xs k) (box_pins_are ps)
    ∙ slice_get-map box_pin ps k
    ∙ ap (option_map box_pin) (slice_get-get_or ps k d (omega (arith, h, box_length ps)))
    ∙ sym (ap (λ xs. Some (box_pin (get_or xs k d))) e)

-- ---- options

pub some_of : {A : Type 0} (o : Option A) → is_some o ≡ true → (x : A) × (o ≡ Some x)
some_of None e = absurd (true≢false (sym e))
some_of (Some x) e = (x, refl)
