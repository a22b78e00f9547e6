use Rattle.std.proofs.Common.{◌≡◌}
use Rattle.eco_overlay.specs.PinMoves.{last_end}
use Rattle.eco_overlay.proofs.statement.joints_end.Given as goal

-- the end of the last joint so far
abbrev pub invariant-loop-joint : goal.invariant-loop-joint
invariant-loop-joint l = l.end ≡ last_end l.net.name.end l.yielded
