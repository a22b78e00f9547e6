use Rattle.std.proofs.Common.{◌≡◌, take, None}
use Rattle.std.specs.List.{find, filter}
use Rattle.eco_pin_faults.specs.Held.{takes}
use Rattle.eco_pin_faults.specs.Places.{joints_among}
use Rattle.eco_pin_faults.proofs.first_place.first_of_side.Given as goal

-- no joint of the statements so far passes
abbrev pub invariant-loop-net : goal.invariant-loop-net
invariant-loop-net g l = find (g.T.PlaceTest.passes l.test) (joints_among l.text (filter (takes l.side) (take l.net-index l.nets))) ≡ None
