-- What `apply_one` answers.
use Rattle.std.specs.Prelude.{List, Result, Ok, Err}
use Rattle.eco_func.specs.Masters.{MasterTables}
use Rattle.eco_issued_laws.specs.Issued.{Edit}
use Rattle.eco_base.specs.Bases.{BaseParts, frozen}
use Rattle.eco_one_gate.specs.declared.one_gate.OneGate.{OneGate}
use Rattle.eco_one_gate.specs.declared.one_fault.OneFault.{OneFault}
use Rattle.eco_one_gate.specs.declared.one_fault.OneFault.TheVariants.{NotSpare, BadOrder, NotEmbedding, Memory}
use Rattle.eco_one_gate.specs.OneGates.{IsOneSpare, IsGoodOrder, IsEmbedded, IsApplied}
use Rattle.eco_one_gate.specs.OneSteps.{IsSpareGate}

-- the spare, the order and the embedding are as they must be; the spare's master
pub record IsReady (b : BaseParts) (one : OneGate) (m : MasterTables) : Type 0 where
  pub gate : IsSpareGate (frozen b.texts) one.spare m
  pub good : IsGoodOrder (frozen b.texts) one
  pub embedded : IsEmbedded one gate.spare.comp gate.spare.output

-- the first of the three that isn't as it must be
abbrev pub IsRefused : BaseParts → OneGate → OneFault → Type 0
IsRefused b one NotSpare = IsOneSpare (frozen b.texts) one.spare → ⊥
IsRefused b one BadOrder = IsOneSpare (frozen b.texts) one.spare × (IsGoodOrder (frozen b.texts) one → ⊥)
IsRefused b one NotEmbedding =
    (spare : IsOneSpare (frozen b.texts) one.spare)
    × IsGoodOrder (frozen b.texts) one
    × (IsEmbedded one spare.comp spare.output → ⊥)
IsRefused b one Memory = Unit {0}

-- An overlay applies the order on a spare, an order and an embedding that are as they must be. A fault is the first that isn't
-- so, unless memory ran out.
abbrev pub AppliesOne : BaseParts → OneGate → Result (List Edit) OneFault → Type 0
AppliesOne b one (Ok overlay) =
    (spare : IsOneSpare (frozen b.texts) one.spare)
    × IsGoodOrder (frozen b.texts) one
    × IsEmbedded one spare.comp spare.output
    × IsApplied b.texts one spare.output overlay
AppliesOne b one (Err e) = IsRefused b one e
