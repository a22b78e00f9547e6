use Rattle.std.proofs.Common.{◌≡◌, length}
use Rattle.eco_wire.specs.Lines.{lists_close}
use Rattle.eco_wire.proofs.fields.lists_close.Given as goal

-- the items that are left decide
abbrev pub invariant-loop-end : goal.invariant-loop-end
invariant-loop-end l = lists_close l.rest ≡ lists_close l.value

abbrev pub decreases-loop-end : goal.decreases-loop-end
decreases-loop-end l = length l.rest
