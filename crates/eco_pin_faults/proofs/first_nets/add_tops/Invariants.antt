use Rattle.std.proofs.Common.{map, take}
use Rattle.eco_pin_faults.specs.Held.{AddsPlaces}
use Rattle.eco_pin_faults.specs.Places.{top_place}
use Rattle.eco_pin_faults.proofs.first_nets.add_tops.Given as goal

-- the top pins so far are added
abbrev pub invariant-loop-pin : goal.invariant-loop-pin
invariant-loop-pin l = AddsPlaces l.initial.nets l.nets (map (top_place l.text) (take l.pin-index l.pins))
