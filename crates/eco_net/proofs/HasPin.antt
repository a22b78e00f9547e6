-- Which names the pins of a gate and of a box have
use Rattle.std.proofs.Common.{◌≡◌, Bool, ◌||◌, List, [], ◌∷◌, map, refl, ap, ap₂, ◌∙◌}
use Rattle.std.specs.List.{list_any}
use Rattle.std.specs.Str.{bytes_eq}
use Rattle.std.proofs.lemmas.List.Folds.{list_any-append}
use Rattle.eco_common.specs.declared.geometry.Dir.{Dir}
use Rattle.eco_func.specs.declared.output.OutputFn.{OutputFn}
use Rattle.eco_func.specs.Masters.{MasterTables}
use Rattle.eco_net.specs.declared.kind.BoxPin.{BoxPin}
use Rattle.eco_net.specs.declared.kind.Kind.TheVariants.{Gate as GivenGate, Boxed as GivenBox}
use Rattle.eco_net.specs.Netlist.{Name, Role, GateInput, GateOutput, BoxedPin, pins_of}
use Rattle.eco_net.specs.Listing.{bits_of, given_kind}

any_mapped : {A B : Type 0} (test : B → Bool) (f : A → B) (xs : List A) → list_any test (map f xs) ≡ list_any (λ x. test (f x)) xs
any_mapped test f [] = refl
any_mapped test f (x ∷ xs) = ap (λ b. test (f x) || b) (any_mapped test f xs)

pub gate_names : (m : MasterTables) (q : Name) → list_any (λ p. bytes_eq p q) (map (λ p. p.0) (pins_of (given_kind (GivenGate m)))) ≡ (list_any (λ p. bytes_eq p q) m.inputs || list_any (λ o. bytes_eq o.pin q) m.outputs)
gate_names m q =
    let test : Name × Role → Bool = λ p. bytes_eq p.0 q in
    let input : Name → Name × Role = λ p. (p, GateInput) in
    let tabled : OutputFn → Name × List Bool = λ o. (o.pin, bits_of o.table) in
    let output : Name × List Bool → Name × Role = λ o. (o.0, GateOutput o.1) in
    any_mapped (λ p. bytes_eq p q) (λ (p : Name × Role). p.0) (pins_of (given_kind (GivenGate m)))
    ∙ list_any-append test (map input m.inputs) (map output (map tabled m.outputs))
    ∙ ap₂ (λ a b. a || b) (any_mapped test input m.inputs) (any_mapped test output (map tabled m.outputs) ∙ any_mapped (λ o. test (output o)) tabled m.outputs)

pub box_names : (pins : List BoxPin) (q : Name) → list_any (λ p. bytes_eq p q) (map (λ p. p.0) (pins_of (given_kind (GivenBox pins)))) ≡ list_any (λ p. bytes_eq p.name q) pins
box_names pins q =
    let plain : BoxPin → Name × Dir = λ p. (p.name, p.dir) in
    let outside : Name × Dir → Name × Role = λ p. (p.0, BoxedPin p.1) in
    any_mapped (λ p. bytes_eq p q) (λ (p : Name × Role). p.0) (map outside (map plain pins))
    ∙ any_mapped (λ (p : Name × Role). bytes_eq p.0 q) outside (map plain pins)
    ∙ any_mapped (λ p. bytes_eq (outside p).0 q) plain pins
