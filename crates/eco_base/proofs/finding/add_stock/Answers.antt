use Rattle.std.proofs.Common.{◌++◌, ◌∷◌, [], map, Some, sym, subst, ap, ◌∙◌}
use Rattle.std.specs.List.{All}
use Rattle.std.proofs.lemmas.List.{map-append}
use Rattle.std.proofs.lemmas.List.Elements.{All-push}
use Rattle.eco_base.specs.Found.{place_of_spare}
use Rattle.eco_base.specs.declared.stock.Spare.{Spare}
use Rattle.eco_base.specs.SparePoints.{HasPoint}
use Rattle.eco_base.proofs.Placed.{found_row}
use Rattle.eco_base.proofs.SparePoints.{placed_at}
use Rattle.eco_base.proofs.finding.add_stock.Goals as goal

pub returns-clause-rows : goal.returns-clause-rows
returns-clause-rows c =
    let old = c.args.spares.now.items in
    let spare : Spare = record { name = c.in_ok-name.name; point = c.point_of-point.result; centre = c.in-Some.centre; comp = c.args.comp } in
    let row = found_row c.args.desk.now c.args.net.now c.args.comp c.in-Some.centre c.in_ok-name.name (c.stock_place.ensures ∙ ap Some c.in-Some.is) (c.comp_name.ensures ∙ ap Some (sym c.in_ok-name.ensures)) in
    ap (map place_of_spare) c.in_ok-push.ensures.items
    ∙ map-append place_of_spare old (spare ∷ [])
    ∙ ap (λ xs. map place_of_spare old ++ xs) (sym row)

pub point_of-point-requires : goal.point_of-point-requires
point_of-point-requires c =
    placed_at c.args.desk.now c.args.net.now c.args.comps.now c.args.comp c.in-Some.centre c.requires.placed (c.stock_place.ensures ∙ ap Some c.in-Some.is)

pub returns-clause-points : goal.returns-clause-points
returns-clause-points c all =
    let spare : Spare = record { name = c.in_ok-name.name; point = c.point_of-point.result; centre = c.in-Some.centre; comp = c.args.comp } in
    subst (All (HasPoint c.args.comps.now)) (sym c.in_ok-push.ensures.items) (All-push (HasPoint c.args.comps.now) c.args.spares.now.items spare all c.point_of-point.ensures)
