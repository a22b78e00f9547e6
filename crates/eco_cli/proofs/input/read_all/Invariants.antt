use Rattle.std.proofs.Common.{◌≡◌, ◌≤◌, ◌-◌, ◌+◌, length}
use Rattle.std.specs.Io.KnownBytes.{prepend_known}
use Rattle.eco_cli.proofs.input.read_all.Given as goal

abbrev pub decreases-loop-piece : goal.decreases-loop-piece
decreases-loop-piece g l = l.limit + 1 - length l.bytes.items

abbrev pub invariant-loop-piece : goal.invariant-loop-piece
invariant-loop-piece g l = (g.S.Source.left l.initial.source ≡ prepend_known l.bytes.items (g.S.Source.left l.source)) × (g.S.Source.faults l.initial.source ≤ g.S.Source.faults l.source) × (length l.bytes.items ≤ l.limit + 1)
