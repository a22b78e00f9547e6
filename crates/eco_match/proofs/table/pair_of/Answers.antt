use Rattle.std.proofs.Common.{arith, ◌+◌}
use Rattle.eco_match.proofs.table.pair_of.Goals as goal

pub find_halving-requires-clause-rising : goal.find_halving-requires-clause-rising
find_halving-requires-clause-rising c =
    (λ i j low less high. c.requires.rising (c.args.gate + 1) i j (low, omega (arith, less, high)) (omega (arith, low, less), high) less)
