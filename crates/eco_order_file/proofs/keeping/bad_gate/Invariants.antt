use Rattle.std.proofs.Common.{◌≡◌, drop, map}
use Rattle.eco_order_file.specs.Rules.{no_label}
use Rattle.eco_order_file.proofs.keeping.bad_gate.Given as goal

abbrev pub invariant-loop-gate : goal.invariant-loop-gate
invariant-loop-gate l = no_label (map (λ g. g.name) l.gates) ≡ no_label (map (λ g. g.name) (drop l.gate-index l.gates))
