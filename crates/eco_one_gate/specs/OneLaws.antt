-- The laws of one patch gate on one named spare.
use Rattle.std.specs.Prelude.{List, [], ◌∷◌}
use Rattle.eco_def.specs.View.{design_in}
use Rattle.eco_issued_laws.specs.Issued.{Edit, IsOverlayOf}
use Rattle.eco_base.specs.Bases.{BaseParts, IsOpen, frozen}
use Rattle.eco_one_gate.specs.declared.one_gate.OneGate.{OneGate}
use Rattle.eco_one_gate.specs.OneGates.{IsOneSpare, IsGoodOrder, IsEmbedded, IsApplied, one_joints}

-- Where the spare is one, the order is good and the gate is embedded, an overlay of the spare's joints applies the order.
abbrev pub OneGateApplies : Type 0
OneGateApplies =
    (b : BaseParts) (one : OneGate) → IsOpen b
    → (spare : IsOneSpare (frozen b.texts) one.spare) → IsGoodOrder (frozen b.texts) one → IsEmbedded one spare.comp spare.output
    → (overlay : List Edit) → IsOverlayOf b.texts.text (design_in b.texts.text b.texts.design) (one_joints (frozen b.texts) one spare.output) (one.output ∷ []) overlay
    → IsApplied b.texts one spare.output overlay
