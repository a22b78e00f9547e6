use Rattle.std.proofs.Common.{◌≡◌, drop}
use Rattle.eco_func.specs.Masters.{all_differ, pins}
use Rattle.eco_func.proofs.master.inputs_differ.Given as goal

abbrev pub invariant-loop-place : goal.invariant-loop-place
invariant-loop-place l = all_differ (pins l.inputs l.outputs) ≡ all_differ (pins (drop l.place l.inputs) l.outputs)
