use Rattle.std.proofs.Common.{None, take, option_copied}
use Rattle.eco_master_faults.specs.Odd.{odd_pins, Lessens}
use Rattle.eco_master_faults.proofs.differing.least_pin.Given as goal

-- the least of the pins so far
abbrev pub invariant-loop-pin : goal.invariant-loop-pin
invariant-loop-pin l = Lessens None (odd_pins l.function (take l.pin-index l.pins)) (option_copied l.least)
