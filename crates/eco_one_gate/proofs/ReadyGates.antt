-- One gate on one spare: what the tests find, said of the base
use Rattle.std.proofs.Common.{◌≡◌, Bool, List, [], ◌∷◌, map, Option, Some, None, refl, sym, ap, ◌∙◌, subst, inl, append-nil}
use Rattle.std.specs.Prelude.{Result, Ok, Err, IfOk}
use Rattle.std.specs.List.{zip}
use Rattle.std.specs.FinMap.{get}
use Rattle.eco_def.specs.View.{design_in}
use Rattle.eco_func.specs.declared.output.OutputFn.{OutputFn}
use Rattle.eco_func.specs.Masters.{MasterTables}
use Rattle.eco_issued_laws.specs.Issued.{Edit, IsOverlayOf}
use Rattle.eco_net.specs.Netlist.{Name, Component, input_names}
use Rattle.eco_net.specs.Walks.{IsLoopFree}
use Rattle.eco_net.specs.Listing.{Listing, netlist, bits_of}
use Rattle.eco_net.proofs.Basics.{contains_from_has}
use Rattle.eco_net.specs.Bases.{Base, bare}
use Rattle.eco_common.specs.Joints.{NewJoint}
use Rattle.eco_patch_laws.specs.Realisation.{patch_joints, spare_joints, feed_joints, on_pin}
use Rattle.eco_patch_laws.specs.Insertion.{move_joint}
use Rattle.eco_base.specs.Bases.{BaseParts, IsOpen, frozen}
use Rattle.eco_base.specs.Limits.{KeepsLimits}
use Rattle.eco_overlay.specs.PinMoves.{ArePinsApart}
use Rattle.eco_one_gate.specs.declared.one_gate.OneGate.{OneGate}
use Rattle.eco_one_gate.specs.OneGates.{gate_of, move_of, order_of, placement, patched, IsGoodOrder, IsApplied, one_joints}
use Rattle.eco_one_gate.specs.OneSteps.{IsSpareGate, IsKnownOrder, lone_joints}
use Rattle.eco_one_gate.specs.OneAnswers.{IsReady}
use Rattle.eco_one_gate.proofs.PatchPins.{patch}
use Rattle.eco_one_gate.proofs.DistinctPins.{distinct_pins}
use Rattle.eco_one_gate.proofs.Spares.{gate_outputs}
use Rattle.eco_one_gate.proofs.Applying.{takes, one_gate_applies}

-- ---- the spare's output

same_head : {A : Type 0} {x y : A} {xs ys : List A} → x ∷ xs ≡ y ∷ ys → x ≡ y
same_head e = cc

pub its_output : (base : Base) (name : Name) (m : MasterTables) (g : IsSpareGate base name m) → g.output.pin ≡ g.spare.output
its_output base name m g =
    let outputs : map {B = Name × List Bool} (λ (o : OutputFn). (o.pin, bits_of o.table)) m.outputs ≡ (g.spare.output, g.spare.table) ∷ [] = gate_outputs (sym g.kind ∙ g.spare.gate) in
    ap (λ z. z.0) (same_head (ap (map {B = Name × List Bool} (λ (o : OutputFn). (o.pin, bits_of o.table))) (sym g.one) ∙ outputs))

-- ---- the order

pub known_of_good : (base : Base) (one : OneGate) → IsGoodOrder base one → IsKnownOrder (bare base) one
known_of_good base one g = record {
  inputs_known = g.inputs_known;
  output_form = g.output_form;
  output_new = g.output_new;
  rows = g.rows;
  moves = record { comp = g.comp; comp_found = g.comp_found; pin_reads = g.pin_reads; from = g.from };
}

pub good_of_known : (base : Base) (one : OneGate) → IsKnownOrder (bare base) one → IsLoopFree (patched base one) → IsGoodOrder base one
good_of_known base one k free = record {
  inputs_known = k.inputs_known;
  output_form = k.output_form;
  output_new = k.output_new;
  comp = k.moves.comp;
  comp_found = k.moves.comp_found;
  pin_reads = k.moves.pin_reads;
  from = k.moves.from;
  rows = k.rows;
  loop_free = free;
}

-- no component has a patch gate's name
pub no_patch : (L : Listing) → KeepsLimits L → get (netlist L).comps patch ≡ None
no_patch L limits = go (get (netlist L).comps patch) refl
  where
    go : (o : Option Component) → get (netlist L).comps patch ≡ o → o ≡ None
    go None e = refl
    go (Some x) e = absurd (limits.names patch x e (contains_from_has patch 32 (inl refl)))

-- ---- the spare's joints

module _ (b : BaseParts) (one : OneGate) (m : MasterTables) (ready : IsReady b one m) where
  abbrev base : Base
  base = frozen b.texts

  spare_is : spare_joints base.low base.high (gate_of one) (placement one ready.gate.spare.output) (get base.full.comps one.spare)
      ≡ on_pin one.spare ready.gate.output.pin one.output ∷ feed_joints base.low base.high (gate_of one) one.spare (zip m.inputs one.feeds.items)
  spare_is =
      ap (spare_joints base.low base.high (gate_of one) (placement one ready.gate.spare.output)) ready.gate.spare.found
      ∙ ap (λ k. on_pin one.spare ready.gate.spare.output one.output ∷ feed_joints base.low base.high (gate_of one) one.spare (zip (input_names k) one.feeds.items)) ready.gate.kind
      ∙ ap (λ p. on_pin one.spare p one.output ∷ feed_joints base.low base.high (gate_of one) one.spare (zip m.inputs one.feeds.items)) (sym (its_output base one.spare m ready.gate))

  pub joints_are : lone_joints base.low base.high one m.inputs ready.gate.output.pin ≡ one_joints base one ready.gate.spare.output
  joints_are = ap (λ (js : List NewJoint). move_joint (move_of one) ∷ js) (sym (append-nil _ ∙ spare_is))

  -- they are of distinct pins
  pub joints_apart : IsOpen b → ArePinsApart (lone_joints base.low base.high one m.inputs ready.gate.output.pin)
  joints_apart open' =
      let t = takes b open' one ready.gate.spare ready.good ready.embedded in
      subst ArePinsApart (sym joints_are) (distinct_pins (patch_joints base.low base.high base.full (order_of one) (placement one ready.gate.spare.output ∷ [])) t.once)

  -- an overlay of them applies the order
  pub is_applied : IsOpen b → (overlay : List Edit)
      → IsOverlayOf b.texts.text (design_in b.texts.text b.texts.design) (lone_joints base.low base.high one m.inputs ready.gate.output.pin) (one.output ∷ []) overlay
      → IsApplied b.texts one ready.gate.spare.output overlay
  is_applied open' overlay is =
      one_gate_applies b one open' ready.gate.spare ready.good ready.embedded overlay
      (subst (λ js. IsOverlayOf b.texts.text (design_in b.texts.text b.texts.design) js (one.output ∷ []) overlay) joints_are is)

pub for_ok : {A E : Type 0} (P Q : A → Type 0) (r : Result A E) → ((a : A) → P a → Q a) → IfOk r P → IfOk r Q
for_ok P Q (Ok a) f h = f a h
for_ok P Q (Err e) f h = tt
