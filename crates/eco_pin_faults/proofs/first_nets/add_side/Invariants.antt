use Rattle.std.proofs.Common.{take}
use Rattle.std.specs.List.{filter}
use Rattle.eco_pin_faults.specs.Held.{takes, AddsPlaces}
use Rattle.eco_pin_faults.specs.Places.{joints_among}
use Rattle.eco_pin_faults.proofs.first_nets.add_side.Given as goal

-- the joints of the statements so far are added
abbrev pub invariant-loop-net : goal.invariant-loop-net
invariant-loop-net l = AddsPlaces l.initial.nets l.nets (joints_among l.text (filter (takes l.side) (take l.net-index l.statements)))
