use Rattle.std.proofs.Common.{length}
use Rattle.eco_design_tests.proofs.overlay.+are_apart.Given as goal

abbrev pub decreases-are_apart : goal.decreases-are_apart
decreases-are_apart l = length l.joints.now
