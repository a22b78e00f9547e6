use Rattle.std.proofs.Common.{◌≢◌, ◌<◌, ◌∙◌, length, length-set, get_or-set_other, get_or-set_same, below_more, arith}
use Rattle.eco_embed.proofs.words.halved.Goals as goal

pub loop-place-preserved : goal.loop-place-preserved
loop-place-preserved c = (
  length-set c.loop-place.left c.loop-place.place c.chosen.result ∙ c.loop-place.invariant.0,
  below_more _ _
      (λ k h r. let ne : k ≢ c.loop-place.place = omega arith in rw get_or-set_other (c.loop-place.invariant.1 k h r))
      (λ r. let lt : c.loop-place.place < length c.loop-place.left = omega (arith, c.loop-place.invariant.0) in rw get_or-set_same (c.chosen.ensures r)),
)
