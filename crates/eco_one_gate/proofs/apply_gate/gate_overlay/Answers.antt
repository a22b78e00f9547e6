use Rattle.std.proofs.Common.{◌≡◌, ◌∷◌, [], ◌++◌, ◌∙◌, sym, ap, subst, map, List, ℕ, get_or}
use Rattle.eco_def.specs.declared.design.Design.{Design}
use Rattle.eco_def.specs.View.{design_in}
use Rattle.eco_def.specs.Sections.{IsReadingOf}
use Rattle.eco_func.specs.Masters.{MasterTables}
use Rattle.eco_common.specs.Joints.{NewJoint}
use Rattle.eco_issued_laws.specs.Issued.{Edit, IsOverlayOf}
use Rattle.eco_net.specs.Netlist.{Name}
use Rattle.eco_base.specs.Bases.{BaseParts, IsOpen}
use Rattle.eco_overlay.specs.PinMoves.{joint_by_names, ArePinsApart}
use Rattle.eco_one_gate.specs.declared.one_gate.OneGate.{OneGate}
use Rattle.eco_one_gate.specs.OneGates.{IsApplied}
use Rattle.eco_one_gate.specs.OneSteps.{lone_joints}
use Rattle.eco_one_gate.proofs.ReadyGates.{joints_apart, is_applied, for_ok}
use Rattle.eco_one_gate.proofs.apply_gate.gate_overlay.Goals as goal

pub of-requires-clause-reading : goal.of-requires-clause-reading
of-requires-clause-reading c =
    let open' : IsOpen c.args.base.now = c.text.ensures.open in
    subst (λ (t : List ℕ × Design). IsReadingOf t.0 t.1) (λ i. (sym c.text.ensures.value i, sym c.design.ensures.value i)) open'.read.reading

pub of-requires-clause-apart : goal.of-requires-clause-apart
of-requires-clause-apart c =
    let b : BaseParts = c.args.base.now in
    let one : OneGate = c.args.one.now in
    let m : MasterTables = c.args.master.now in
    let output : get_or c.outputs.result.now 0 c.index-outputs-0.result ≡ c.requires.gate.output = ap (λ os. get_or os 0 c.index-outputs-0.result) (c.outputs.ensures.value ∙ c.requires.gate.one) in
    let joints : map joint_by_names c.deref.result.now ≡ lone_joints b.texts.desk.low b.texts.desk.high one m.inputs c.requires.gate.output.pin =
    ap (map joint_by_names) c.deref.ensures.value
    ∙ c.in_ok-joints.ensures
    ∙ (λ i. lone_joints (c.tie-low.ensures.value i) (c.tie-high.ensures.value i) one (c.inputs.ensures.value i) (output i).pin) in
    subst ArePinsApart (sym joints) (joints_apart b one m c.requires c.text.ensures.open)

pub returns-clause-applied : goal.returns-clause-applied
returns-clause-applied c ready =
    let b : BaseParts = c.args.base.now in
    let one : OneGate = c.args.one.now in
    let m : MasterTables = c.args.master.now in
    let output : get_or c.outputs.result.now 0 c.index-outputs-0.result ≡ ready.gate.output = ap (λ os. get_or os 0 c.index-outputs-0.result) (c.outputs.ensures.value ∙ ready.gate.one) in
    let joints : map joint_by_names c.deref.result.now ≡ lone_joints b.texts.desk.low b.texts.desk.high one m.inputs ready.gate.output.pin =
    ap (map joint_by_names) c.deref.ensures.value
    ∙ c.in_ok-joints.ensures
    ∙ (λ i. lone_joints (c.tie-low.ensures.value i) (c.tie-high.ensures.value i) one (c.inputs.ensures.value i) (output i).pin) in
    let nets : c.deref-2.result.now ≡ one.output ∷ [] =
    c.deref-2.ensures.value ∙ c.in_ok-push.ensures.items ∙ ap (λ (ns : List Name). ns ++ c.in_ok-copy.field-0 ∷ []) c.new-nets.ensures.items ∙ ap (λ (n : Name). n ∷ []) c.in_ok-copy.ensures in
    for_ok (λ (o : List Edit). IsOverlayOf c.text.result.now (design_in c.text.result.now c.design.result.now) (map joint_by_names c.deref.result.now) c.deref-2.result.now o) (IsApplied b.texts one ready.gate.spare.output) c.of.result
    (λ o is. is_applied b one m ready c.text.ensures.open o
    (subst (λ (t : List ℕ × Design × List NewJoint × List Name). IsOverlayOf t.0 (design_in t.0 t.1) t.2 t.3 o) (λ i. (c.text.ensures.value i, c.design.ensures.value i, joints i, nets i)) is))
    c.of.ensures.issued
