use Rattle.std.proofs.Common.{◌≡◌, take}
use Rattle.eco_master_faults.specs.Making.{boxed}
use Rattle.eco_master_faults.proofs.table.signal_pins.Given as goal

-- the pins so far
abbrev pub invariant-loop-pin : goal.invariant-loop-pin
invariant-loop-pin l = l.made.items ≡ boxed (take l.pin-index l.pins)
