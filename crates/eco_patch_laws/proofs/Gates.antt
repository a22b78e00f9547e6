-- Gates: their pins by name, and what a patch gate drives and reads
use Rattle.std.proofs.Common.{◌≡◌, ◌≢◌, ℕ, ◌+◌, ◌<◌, Bool, true, false, cond, List, [], ◌∷◌, ◌++◌, map, Option, Some, None, refl, sym, ap, ◌∙◌, inl, inr, ⊎_elim, arith, true≢false}
use Rattle.std.specs.Ordering.{eq_by_cmp}
use Rattle.std.specs.Cmp.Lexicographic.{nat_list_cmp_total}
use Rattle.std.specs.List.{enumerate_from, IsDistinct, AllByRecursion}
use Rattle.std.specs.FinMap.{get, find, get-from_entries}
use Rattle.eco_common.specs.declared.geometry.Dir.{Dir}
use Rattle.eco_common.specs.declared.geometry.Point.{Point}
use Rattle.eco_net.specs.Netlist.{Name, name_cmp, Component, Kind, Gate, Boxed, Role, GateInput, GateOutput, BoxedPin, pins_of, role_of, input_names, input_nets}
use Rattle.eco_net.specs.Drivers.{is_driving, driven_at}
use Rattle.eco_net.proofs.Basics.{Has, same_Some, not_None, same_name, same_head, find_first, find_rest, map_agree}
use Rattle.eco_patch_laws.specs.Orders.{PatchGate}
use Rattle.eco_patch_laws.specs.Insertion.{input_pin, output_pin, input_pins, patch_component}
use Rattle.eco_patch_laws.proofs.Names.{same_tail}

not_reads : {t : List Bool} → Some GateInput ≡ Some (GateOutput t) → ⊥
not_reads e = cc

not_out : {d : Dir} → Some GateInput ≡ Some (BoxedPin d) → ⊥
not_out e = cc

computes_out : {t : List Bool} {d : Dir} → Some (GateOutput t) ≡ Some (BoxedPin d) → ⊥
computes_out e = cc

-- ---- a gate's pins

abbrev reading : List Name → List (Name × Role)
reading ins = map (λ p. (p, GateInput)) ins

abbrev computing : List (Name × List Bool) → List (Name × Role)
computing outs = map (λ o. (o.0, GateOutput o.1)) outs

-- a gate has no pin of a box
pub gate_no_outside : (ins : List Name) (outs : List (Name × List Bool)) (p : Name) (d : Dir) → find name_cmp p (reading ins ++ computing outs) ≡ Some (BoxedPin d) → ⊥
gate_no_outside [] [] p d e = not_None (sym e)
gate_no_outside [] (o ∷ outs) p d e =
    ⊎_elim
    (λ s. computes_out (find_first (o.0, GateOutput o.1) (computing outs) p s e))
    (λ n. gate_no_outside [] outs p d (find_rest (o.0, GateOutput o.1) (computing outs) p n e))
    (same_name p o.0)
gate_no_outside (i ∷ ins) outs p d e =
    ⊎_elim
    (λ s. not_out (find_first (i, GateInput) (reading ins ++ computing outs) p s e))
    (λ n. gate_no_outside ins outs p d (find_rest (i, GateInput) (reading ins ++ computing outs) p n e))
    (same_name p i)

-- an output is no input
pub output_no_input : (ins : List Name) (outs : List (Name × List Bool)) (p : Name) (t : List Bool) → find name_cmp p (reading ins ++ computing outs) ≡ Some (GateOutput t) → Has ins p → ⊥
output_no_input [] outs p t e h = h
output_no_input (i ∷ ins) outs p t e h =
    ⊎_elim
    (λ s. not_reads (find_first (i, GateInput) (reading ins ++ computing outs) p s e))
    (λ n. output_no_input ins outs p t (find_rest (i, GateInput) (reading ins ++ computing outs) p n e) (⊎_elim (λ s. absurd (n (sym s))) (λ j. j) h))
    (same_name p i)

-- a driving pin of a gate is an output
pub driving_computes : (ins : List Name) (outs : List (Name × List Bool)) (p : Name) → is_driving (find name_cmp p (reading ins ++ computing outs)) ≡ true → (t : List Bool) × (find name_cmp p (reading ins ++ computing outs) ≡ Some (GateOutput t))
driving_computes ins outs p d = go (find name_cmp p (reading ins ++ computing outs)) refl d
  where
    go : (o : Option Role) → find name_cmp p (reading ins ++ computing outs) ≡ o → is_driving o ≡ true → (t : List Bool) × (find name_cmp p (reading ins ++ computing outs) ≡ Some (GateOutput t))
    go None e d = absurd (true≢false (sym d))
    go (Some GateInput) e d = absurd (true≢false (sym d))
    go (Some (GateOutput t)) e d = (t, e)
    go (Some (BoxedPin q)) e d = absurd (gate_no_outside ins outs p q e)

all_inputs : (P : Name → Type 0) (ins : List Name) (rest : List (Name × Role)) → AllByRecursion P (map (λ e. e.0) (reading ins ++ rest)) → AllByRecursion P ins
all_inputs P [] rest a = tt
all_inputs P (i ∷ ins) rest a = (a.0, all_inputs P ins rest a.1)

distinct_inputs : (ins : List Name) (rest : List (Name × Role)) → IsDistinct (eq_by_cmp name_cmp) (map (λ e. e.0) (reading ins ++ rest)) → IsDistinct (eq_by_cmp name_cmp) ins
unfolding IsDistinct
distinct_inputs [] rest d = tt
distinct_inputs (i ∷ ins) rest d = (all_inputs _ ins rest d.0, distinct_inputs ins rest d.1)

-- where a component's pins have distinct names, its inputs have
pub inputs_distinct : (k : Kind) → IsDistinct (eq_by_cmp name_cmp) (map (λ e. e.0) (pins_of k)) → IsDistinct (eq_by_cmp name_cmp) (input_names k)
unfolding IsDistinct
inputs_distinct (Gate ins outs) d = distinct_inputs ins (computing outs) d
inputs_distinct (Boxed pins) d = tt

-- ---- driving pins

pub joined_driven : (x : Component) (p n : Name) → driven_at (Some x) p ≡ Some n → (is_driving (role_of x p) ≡ true) × (get x.joined p ≡ Some n)
joined_driven x p n = go (is_driving (role_of x p))
  where
    go : (b : Bool) → cond b (get x.joined p) None ≡ Some n → (b ≡ true) × (get x.joined p ≡ Some n)
    go true e = (refl, e)
    go false e = absurd (not_None (sym e))

pub driven_joined : (x : Component) (p n : Name) → is_driving (role_of x p) ≡ true → get x.joined p ≡ Some n → driven_at (Some x) p ≡ Some n
driven_joined x p n d e = ap (λ b. cond b (get x.joined p) None) d ∙ e

-- the one net that a gate drives, by one pin with a table
pub record Drives (x : Component) (pin out : Name) (table : List Bool) : Type 0 where
  pub drives : driven_at (Some x) pin ≡ Some out
  pub only : (p n : Name) → driven_at (Some x) p ≡ Some n → (p ≡ pin) × (n ≡ out)
  pub at : role_of x pin ≡ Some (GateOutput table)
  pub no_outside : (p : Name) (d : Dir) → role_of x p ≡ Some (BoxedPin d) → ⊥

-- ---- a patch gate's pins

abbrev pins_from : ℕ → List Name → List (Name × Name)
pins_from k inputs = map (λ e. (input_pin e.0, e.1)) (enumerate_from k inputs)

abbrev names_from : ℕ → List Name → List Name
names_from k inputs = map (λ e. e.0) (pins_from k inputs)

same_number : (i j : ℕ) → input_pin i ≡ input_pin j → i ≡ j
same_number i j e = let f : 48 + i ≡ 48 + j = same_head (same_tail e) in omega (arith, f)

later_pin : (k j : ℕ) (inputs : List Name) (p : Name) → k < j → Has (names_from j inputs) p → p ≢ input_pin k
later_pin k j [] p l h s = h
later_pin k j (n ∷ inputs) p l (inl e) s = let f : j ≡ k = same_number j k (e ∙ s) in omega (arith, l, f)
later_pin k j (n ∷ inputs) p l (inr h) s = let m : k < j + 1 = omega (arith, l) in later_pin k (j + 1) inputs p m h s

find_inputs : (k : ℕ) (inputs : List Name) (rest : List (Name × Name)) → map (λ p. find name_cmp p (pins_from k inputs ++ rest)) (names_from k inputs) ≡ map Some inputs
find_inputs k [] rest = refl
find_inputs k (n ∷ inputs) rest =
    let first : find name_cmp (input_pin k) (pins_from k (n ∷ inputs) ++ rest) ≡ Some n = sym (find_first (input_pin k, n) (pins_from (k + 1) inputs ++ rest) (input_pin k) refl refl) in
    let others : map (λ p. find name_cmp p (pins_from k (n ∷ inputs) ++ rest)) (names_from (k + 1) inputs) ≡ map (λ p. find name_cmp p (pins_from (k + 1) inputs ++ rest)) (names_from (k + 1) inputs) =
    map_agree _ _ (names_from (k + 1) inputs) (λ p h. sym (find_rest (input_pin k, n) (pins_from (k + 1) inputs ++ rest) p (later_pin k (k + 1) inputs p (omega arith) h) refl)) in
    λ i. first i ∷ (others ∙ find_inputs (k + 1) inputs rest) i

find_output : (k : ℕ) (inputs : List Name) (n : Name) → find name_cmp output_pin (pins_from k inputs ++ (output_pin, n) ∷ []) ≡ Some n
find_output k [] n = refl
find_output k (m ∷ inputs) n = find_output (k + 1) inputs n

role_of_output : (k : ℕ) (inputs : List Name) (t : List Bool) → find name_cmp output_pin (reading (names_from k inputs) ++ computing ((output_pin, t) ∷ [])) ≡ Some (GateOutput t)
role_of_output k [] t = refl
role_of_output k (m ∷ inputs) t = role_of_output (k + 1) inputs t

only_output : (k : ℕ) (inputs : List Name) (t : List Bool) (p : Name) → is_driving (find name_cmp p (reading (names_from k inputs) ++ computing ((output_pin, t) ∷ []))) ≡ true → p ≡ output_pin
only_output k [] t p d =
    ⊎_elim
    (λ s. s)
    (λ n. absurd (true≢false (sym d ∙ ap is_driving (sym (find_rest (output_pin, GateOutput t) [] p n refl)))))
    (same_name p output_pin)
only_output k (m ∷ inputs) t p d =
    let rest = reading (names_from (k + 1) inputs) ++ computing ((output_pin, t) ∷ []) in
    ⊎_elim
    (λ s. absurd (true≢false (sym d ∙ ap is_driving (sym (find_first (input_pin k, GateInput) rest p s refl)))))
    (λ n. only_output (k + 1) inputs t p (ap is_driving (find_rest (input_pin k, GateInput) rest p n refl) ∙ d))
    (same_name p (input_pin k))

module _ (g : PatchGate) (place : Option Point) where
  patch_joined : (p : Name) → get (patch_component g place).joined p ≡ find name_cmp p (input_pins g.inputs ++ (output_pin, g.output) ∷ [])
  patch_joined p = get-from_entries nat_list_cmp_total (input_pins g.inputs ++ (output_pin, g.output) ∷ []) p

  patch_out : driven_at (Some (patch_component g place)) output_pin ≡ Some g.output
  patch_out = driven_joined (patch_component g place) output_pin g.output (ap is_driving (role_of_output 0 g.inputs g.table)) (patch_joined output_pin ∙ find_output 0 g.inputs g.output)

  pub patch_drives : Drives (patch_component g place) output_pin g.output g.table
  patch_drives = record {
    drives = patch_out;
    only = λ p n d.
        let s : p ≡ output_pin = only_output 0 g.inputs g.table p (joined_driven (patch_component g place) p n d).0 in
        (s, same_Some (sym (sym (ap (driven_at (Some (patch_component g place))) s) ∙ d) ∙ patch_out));
    at = role_of_output 0 g.inputs g.table;
    no_outside = λ p d e. gate_no_outside (map (λ e. e.0) (input_pins g.inputs)) ((output_pin, g.table) ∷ []) p d e;
  }

  pub patch_reads : input_nets (patch_component g place) ≡ map Some g.inputs
  patch_reads = map_agree _ _ (map (λ e. e.0) (input_pins g.inputs)) (λ p h. patch_joined p) ∙ find_inputs 0 g.inputs ((output_pin, g.output) ∷ [])
