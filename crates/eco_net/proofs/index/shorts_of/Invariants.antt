use Rattle.std.proofs.Common.{◌≡◌, take, map}
use Rattle.eco_net.specs.Index.{short_of}
use Rattle.eco_net.proofs.index.shorts_of.Given as goal

abbrev pub invariant-loop-name : goal.invariant-loop-name
invariant-loop-name l = l.shorts.items ≡ map (λ n. short_of n.now) (take l.name-index l.names)
