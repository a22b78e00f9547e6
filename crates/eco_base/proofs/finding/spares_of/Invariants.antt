use Rattle.std.proofs.Common.{◌≡◌, map, take}
use Rattle.std.specs.List.{All, filter}
use Rattle.eco_base.specs.Found.{is_stock_row, place_in_row, place_of_spare, AreNumbered}
use Rattle.eco_base.specs.SparePoints.{HasPoint}
use Rattle.eco_base.proofs.finding.spares_of.Given as goal

abbrev pub invariant-loop-comp : goal.invariant-loop-comp
invariant-loop-comp l = record {
  rows : map place_of_spare l.spares.items ≡ map place_in_row (filter (is_stock_row l.desk l.net.nets) (take l.comp l.net.comps));
  numbers : AreNumbered l.net l.spares.items;
  points : All (HasPoint l.comps) l.spares.items;
}
