use Rattle.std.proofs.Common.{◌++◌, ◌∷◌, [], ap, sym, ◌∙◌}
use Rattle.eco_base.specs.Found.{is_stock_row}
use Rattle.eco_base.proofs.Lists.{map_more}
use Rattle.eco_base.proofs.finding.marks_of.Goals as goal

pub loop-comp-preserved : goal.loop-comp-preserved
loop-comp-preserved c =
    let L = c.args.net.now in
    c.in_ok-push.ensures.items
    ∙ ap (λ xs. xs ++ c.is_stock.result ∷ []) c.loop-comp.invariant
    ∙ sym (map_more (is_stock_row c.args.desk.now L.nets) L.comps c.loop-comp.comp c.is_stock.result c.is_stock.ensures)
