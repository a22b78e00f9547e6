use Rattle.std.proofs.Common.{take}
use Rattle.eco_elaborate.specs.Stated.{named_pins}
use Rattle.eco_elaborate.specs.Stages.{AddsTops}
use Rattle.eco_elaborate.proofs.listed_tops.add_tops.Given as goal

-- the pins so far are added
abbrev pub invariant-loop-pin : goal.invariant-loop-pin
invariant-loop-pin l = AddsTops (named_pins l.text (take l.pin-index l.pins)) l.initial.maker l.maker
