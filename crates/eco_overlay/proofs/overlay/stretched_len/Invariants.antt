use Rattle.std.proofs.Common.{◌≡◌, ℕ, ◌+◌, ◌≤◌, length, drop}
use Rattle.eco_issued_laws.specs.Issued.{edited, InOrder}
use Rattle.eco_overlay.specs.Overlays.{edits_of, Rises}
use Rattle.eco_overlay.proofs.overlay.stretched_len.Given as goal

-- the edited text up to a place has what the text and the bytes had up to there, less what was replaced
abbrev pub invariant-loop-stretch : goal.invariant-loop-stretch
invariant-loop-stretch l =
    (at : ℕ) × (from : ℕ) × (l.replaced ≤ at) × InOrder at (length l.text) (edits_of l.bytes from (drop l.stretch-index l.stretches)) × Rises from (length l.bytes) (drop l.stretch-index l.stretches)
    × (length (edited l.text 0 (edits_of l.bytes 0 l.stretches)) + l.replaced ≡ at + from + length (edited l.text at (edits_of l.bytes from (drop l.stretch-index l.stretches))))
