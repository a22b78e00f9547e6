use Rattle.std.proofs.Common.{◌≡◌, ◌++◌, ◌+◌, [], ◌∷◌, ap, ap₂, sym, ◌∙◌, arith}
use Rattle.std.proofs.lemmas.List.FromFn.{map-range_with_len_more}
use Rattle.eco_func.specs.Tables.{at}
use Rattle.eco_order_file.specs.OrderValues.{digit}
use Rattle.eco_order_file.proofs.json.table_text.Goals as goal

pub loop-row-preserved : goal.loop-row-preserved
loop-row-preserved c =
    let t = c.args.table in
    let i = c.loop-row.row in
    c.in_ok-push_str.ensures.bytes
    ∙ ap₂ (λ xs ys. xs ++ ys) c.loop-row.invariant (c.digit.ensures ∙ ap (λ b. digit b ∷ []) c.at.ensures)
    ∙ sym (map-range_with_len_more (λ r. digit (at t r)) 0 i i (omega arith))
