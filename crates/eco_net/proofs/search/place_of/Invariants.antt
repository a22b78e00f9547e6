use Rattle.std.proofs.Common.{◌-◌, drop, length}
use Rattle.eco_net.specs.Among.{Has}
use Rattle.eco_net.proofs.search.place_of.Given as goal

abbrev pub invariant-loop-place : goal.invariant-loop-place
invariant-loop-place l = Has (drop l.place l.path) l.net

abbrev pub decreases-loop-place : goal.decreases-loop-place
decreases-loop-place l = length l.path - l.place
