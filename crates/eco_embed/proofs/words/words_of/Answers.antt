use Rattle.std.proofs.Common.{◌≢◌, ◌<◌, length, length-set, get_or-set_other, get_or-set_same, below_more, arith, ◌∙◌}
use Rattle.std.proofs.lemmas.Nat.{one_shl}
use Rattle.eco_func.proofs.Powers.{few_rows}
use Rattle.eco_embed.proofs.words.words_of.Goals as goal

pub bounds-words-row : goal.bounds-words-row
bounds-words-row c =
    let i = c.inputs-row-end.result in
    omega (arith, few_rows i c.inputs-row-end.ensures.few, one_shl i 8 (omega (arith, c.inputs-row-end.ensures.few)), c.loop-row-test.true)

pub loop-row-preserved : goal.loop-row-preserved
loop-row-preserved c =
    let i = c.inputs-row-end.result in
    let row : c.loop-row.row < 64 = omega (arith, few_rows i c.inputs-row-end.ensures.few, one_shl i 8 (omega (arith, c.inputs-row-end.ensures.few)), c.loop-row-test.true) in (
      length-set c.loop-row.words c.loop-row.row c.all_rows.result ∙ c.loop-row.invariant.0,
      below_more _ _
          (λ k h r. let ne : k ≢ c.loop-row.row = omega arith in rw get_or-set_other (c.loop-row.invariant.1 k h r))
          (λ r small. let lt : c.loop-row.row < length c.loop-row.words = omega (arith, c.loop-row.invariant.0) in rw get_or-set_same (c.all_rows.ensures r small ∙ c.at.ensures)),
    )
