use Rattle.std.proofs.Common.{◌≡◌, ℕ, List, ◌++◌, length, drop, Ok}
use Rattle.eco_common.specs.declared.failed.Failed.{Failed}
use Rattle.eco_text.specs.Writing.{Writes}
use Rattle.eco_issued_laws.specs.Issued.{edited}
use Rattle.eco_overlay.specs.Overlays.{edits_of, Rises}
use Rattle.eco_overlay.proofs.overlay.write_stretches.Given as goal

-- what was written so far, and the text of the rest
abbrev pub invariant-loop-stretch : goal.invariant-loop-stretch
invariant-loop-stretch g l =
    (front : List ℕ) × Writes {T = Unit {0}} {E = Failed} g.K.Sink.taken g.K.Sink.faults l.initial.sink l.sink (Ok tt) front
    × (front ++ edited l.text l.at (edits_of l.bytes l.from (drop l.stretch-index l.stretches)) ≡ edited l.text 0 (edits_of l.bytes 0 l.stretches))
    × Rises l.from (length l.bytes) (drop l.stretch-index l.stretches)
