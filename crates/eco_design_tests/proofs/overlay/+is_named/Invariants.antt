use Rattle.std.proofs.Common.{length}
use Rattle.eco_design_tests.proofs.overlay.+is_named.Given as goal

abbrev pub decreases-is_named : goal.decreases-is_named
decreases-is_named l = length l.others.now
