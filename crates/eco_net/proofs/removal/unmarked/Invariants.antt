use Rattle.std.proofs.Common.{◌≡◌, not, map, length, take}
use Rattle.std.specs.List.{filter, zip}
use Rattle.eco_net.proofs.removal.unmarked.Given as goal

abbrev pub invariant-loop-marked : goal.invariant-loop-marked
invariant-loop-marked l = l.left.items ≡ map (λ p. p.1) (filter (λ p. not p.0) (take (length l.yielded) (zip l.marks l.fn.comps.items)))
