use Rattle.std.proofs.Common.{◌<◌, ◌++◌, map, length, slice_get, sym, ap, ◌∙◌, arith}
use Rattle.std.specs.Option.{option_to_list}
use Rattle.std.specs.List.{filter}
use Rattle.eco_net.proofs.Places.{at_place}
use Rattle.eco_base.specs.Found.{is_stock_row, place_in_row}
use Rattle.eco_base.proofs.Lists.{filter_more}
use Rattle.eco_base.proofs.finding.spares_of.Goals as goal

pub loop-comp-preserved : goal.loop-comp-preserved
loop-comp-preserved c =
    let L = c.args.net.now in
    let i = c.loop-comp.comp in
    let p = is_stock_row c.args.desk.now L.nets in
    let h : i < length L.comps = omega (arith, c.loop-comp-test.true, c.loop-comp.auto.comp-end, c.counts-comp-end.ensures.comps) in
    let r = at_place L.comps i h in
    record {
      rows =
          c.in_ok-add_stock.ensures.rows
          ∙ ap (λ xs. xs ++ map place_in_row (filter p (option_to_list (slice_get L.comps i)))) c.loop-comp.invariant.rows
          ∙ sym (filter_more place_in_row p L.comps i r.0 r.1);
      numbers = c.in_ok-add_stock.ensures.numbers c.loop-comp.invariant.numbers;
      points = c.in_ok-add_stock.ensures.points c.loop-comp.invariant.points;
    }
