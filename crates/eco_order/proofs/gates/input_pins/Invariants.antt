use Rattle.std.proofs.Common.{◌≡◌, map}
use Rattle.std.specs.List.{range_with_len}
use Rattle.eco_patch_laws.specs.Insertion.{input_pin}
use Rattle.eco_order.proofs.gates.input_pins.Given as goal

abbrev pub invariant-loop-place : goal.invariant-loop-place
invariant-loop-place l = l.pins.items ≡ map input_pin (range_with_len 0 l.place)
