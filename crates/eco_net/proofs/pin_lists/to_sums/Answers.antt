use Rattle.std.proofs.Common.{take, sum, length, arith}
use Rattle.std.proofs.lemmas.List.FromFn.{fill_by_all}
use Rattle.eco_net.proofs.pin_lists.to_sums.Goals as goal

pub returns-clause-each : goal.returns-clause-each
returns-clause-each c =
    fill_by_all (λ n. sum (take n c.args.counts.now)) c.loop-count.counts (length c.args.counts.now) 0 c.loop-count.auto.counts
    (λ k h. c.loop-count.invariant.before k (omega (arith, h, c.loop-count-test.false, c.loop-count.auto.counts)))
