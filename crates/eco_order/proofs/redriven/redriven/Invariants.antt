use Rattle.std.proofs.Common.{◌≡◌, ◌++◌, drop, map}
use Rattle.eco_order.proofs.redriven.redriven.Given as goal

abbrev pub invariant-loop-gate : goal.invariant-loop-gate
invariant-loop-gate l = map (λ n. n.now) l.nets.items ++ map (λ g. g.output) (drop l.gate-index l.order.gates) ≡ map (λ g. g.output) l.order.gates
