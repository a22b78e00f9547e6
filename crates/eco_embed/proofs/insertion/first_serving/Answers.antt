use Rattle.std.proofs.Common.{◌^◌, ◌≤◌, ◌∙◌, ap, sym, subst, arith}
use Rattle.std.proofs.lemmas.List.{length-take-le}
use Rattle.std.proofs.lemmas.Nat.{one_shl}
use Rattle.eco_func.proofs.Powers.{few_rows}
use Rattle.eco_embed.proofs.Serving.{of_table}
use Rattle.eco_embed.proofs.insertion.first_serving.Goals as goal

pub slice_bounds-first_feeds-end : goal.slice_bounds-first_feeds-end
slice_bounds-first_feeds-end c =
    let i = c.inputs-pins.result in
    omega (arith, one_shl i 64 (omega (arith, c.inputs-pins.ensures.few)), few_rows i c.inputs-pins.ensures.few, c.words_of.ensures.places)

pub slice_bounds-first_feeds-end-2 : goal.slice_bounds-first_feeds-end-2
slice_bounds-first_feeds-end-2 c =
    let i = c.inputs-pins.result in
    sym (length-take-le _ _ (omega (arith, one_shl i 64 (omega (arith, c.inputs-pins.ensures.few)), few_rows i c.inputs-pins.ensures.few, c.words_of.ensures.places)))

pub first_feeds-requires-clause-words : goal.first_feeds-requires-clause-words
first_feeds-requires-clause-words c =
    let i = c.inputs-pins.result in
    length-take-le _ _ (omega (arith, one_shl i 64 (omega (arith, c.inputs-pins.ensures.few)), few_rows i c.inputs-pins.ensures.few, c.words_of.ensures.places))
    ∙ one_shl i 64 (omega (arith, c.inputs-pins.ensures.few))

pub returns : goal.returns
returns c =
    let i = c.inputs-pins.result in
    let front = one_shl i 64 (omega (arith, c.inputs-pins.ensures.few)) ∙ ap (λ n. 2 ^ n) c.inputs-pins.ensures.value in
    of_table c.args.want.now c.args.table.now (subst (λ n. n ≤ 6) c.inputs.ensures.value c.inputs.ensures.few) c.words_of.result c.words_of.ensures.words
    _ i front c.inputs-pins.ensures.value c.first_feeds.result c.first_feeds.ensures
