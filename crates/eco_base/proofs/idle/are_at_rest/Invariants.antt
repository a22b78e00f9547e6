use Rattle.std.proofs.Common.{◌≡◌, true, Some, slice_get, take}
use Rattle.std.specs.List.{list_all}
use Rattle.eco_net.specs.declared.rows.CompRow.{CompRow}
use Rattle.eco_net.specs.Listing.{pins}
use Rattle.eco_base.proofs.Rest.{pin_rests}
use Rattle.eco_base.proofs.idle.are_at_rest.Given as goal

abbrev pub invariant-loop-pin : goal.invariant-loop-pin
invariant-loop-pin l =
    (r : CompRow) → slice_get l.net.comps l.comp.0 ≡ Some r → list_all (pin_rests l.desk l.net.nets r) (take l.pin (pins r)) ≡ true
