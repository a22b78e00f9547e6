use Rattle.std.proofs.Common.{◌≡◌, map, take, None}
use Rattle.std.specs.List.{find}
use Rattle.eco_pin_faults.specs.Places.{top_place}
use Rattle.eco_pin_faults.proofs.first_place.first_of_tops.Given as goal

-- none of the top pins so far passes
abbrev pub invariant-loop-pin : goal.invariant-loop-pin
invariant-loop-pin g l = find (g.T.PlaceTest.passes l.test) (map (top_place l.text) (take l.pin-index l.pins)) ≡ None
