use Rattle.std.proofs.Common.{◌≡◌, map, drop}
use Rattle.eco_func.specs.Masters.{all_differ}
use Rattle.eco_func.proofs.master.pins_differ.Given as goal

abbrev pub invariant-loop-place : goal.invariant-loop-place
invariant-loop-place l = all_differ (map (λ o. o.pin) l.outputs) ≡ all_differ (map (λ o. o.pin) (drop l.place l.outputs))
