use Rattle.std.proofs.Common.{◌+◌}
use Rattle.eco_turn.specs.Turn.{IsNew}
use Rattle.eco_turn.proofs.Lists.{at_all}
use Rattle.eco_turn.proofs.Passes.{new_of}
use Rattle.eco_turn.proofs.turn.Turn.new.Goals as goal

pub returns-in-Ok-open-clause-passes : goal.returns-in-Ok-open-clause-passes
returns-in-Ok-open-clause-passes g c = at_all (λ k p. IsNew g.T.Kept.entries g.T.Kept.fixed c.in-Ok-open.turn c.args.value (k + 1) p) c.make_passes.new.list.items
    (λ k p at. new_of g.T.Kept.entries g.T.Kept.fixed _ _ _ _ p c.in-Ok-open.ensures.turn.0 (c.make_passes.ensures.each k p at))
