use Rattle.std.proofs.Common.{◌≡◌}
use Rattle.eco_net.specs.ByNumber.{tops_to}
use Rattle.eco_net.specs.Driving.{each_driving}
use Rattle.eco_net.proofs.drivers.note_tops.Given as goal

abbrev pub invariant-loop-top : goal.invariant-loop-top
invariant-loop-top l = l.driving ≡ each_driving l.listed (tops_to l.top)
