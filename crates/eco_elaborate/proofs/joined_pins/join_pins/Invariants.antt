use Rattle.std.proofs.Common.{take}
use Rattle.eco_elaborate.specs.Stages.{JoinsPins}
use Rattle.eco_elaborate.proofs.joined_pins.join_pins.Given as goal

-- the pins so far are on their nets
abbrev pub invariant-loop-pin : goal.invariant-loop-pin
invariant-loop-pin l = JoinsPins l.initial.maker (take l.pin-index l.pins) l.maker
