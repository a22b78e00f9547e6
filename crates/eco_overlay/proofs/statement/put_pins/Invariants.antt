use Rattle.std.proofs.Common.{◌≡◌, ◌++◌, take}
use Rattle.std.specs.List.{flat_map}
use Rattle.eco_issued_laws.specs.Printing.{spaced}
use Rattle.eco_issued_laws.specs.Issued.{joint_words}
use Rattle.eco_overlay.specs.PinMoves.{moved_pin}
use Rattle.eco_overlay.proofs.statement.put_pins.Given as goal

-- the pins so far
abbrev pub invariant-loop-pin : goal.invariant-loop-pin
invariant-loop-pin l = l.bytes.items ≡ l.initial.bytes.items ++ flat_map (λ m. spaced (joint_words (moved_pin m))) (take l.pin-index l.pins)
