use Rattle.std.proofs.Common.{◌≡◌, ◌++◌, drop, map}
use Rattle.eco_order_file.proofs.keeping.gate_bytes.Given as goal

abbrev pub invariant-loop-gate : goal.invariant-loop-gate
invariant-loop-gate l = map (λ k. k.now) l.keys.items ++ map (λ g. g.name) (drop l.gate-index l.gates) ≡ map (λ g. g.name) l.gates
