use Rattle.std.proofs.Common.{arith, ◌∙◌, inl, inr, ◌-◌}
use Rattle.eco_match.proofs.Order.{split}
use Rattle.eco_match.proofs.Words.{rank-past}
use Rattle.eco_match.proofs.search.seed.Goals as goal

pub returns-clause-ranks : goal.returns-clause-ranks
returns-clause-ranks c = λ k ne.
    elim (split (c.args.places - k)) [
      | inl past ↦ rank-past c.set_rank-2.new.tree c.args.places k (omega arith) (omega (arith, past))
      | inr inside ↦ c.set_rank-2.ensures.others k ne ∙ c.loop-place.invariant.ranks k (omega (arith, inside))
    ]
