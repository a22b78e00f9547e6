use Rattle.std.proofs.Common.{◌≡◌, drop}
use Rattle.eco_func.specs.Masters.{all_differ}
use Rattle.eco_func.proofs.Differing.{differ_so_far}
use Rattle.eco_func.proofs.differ.differ.Given as goal

abbrev pub invariant-loop-name : goal.invariant-loop-name
invariant-loop-name l = all_differ l.names ≡ differ_so_far l.seen.keys (drop l.name-index l.names)
