use Rattle.std.proofs.Common.{◌≡◌}
use Rattle.eco_net.specs.ByNumber.{tops_to}
use Rattle.eco_net.specs.PinLists.{put_all}
use Rattle.eco_net.proofs.pins.put_tops.Given as goal

abbrev pub invariant-loop-top : goal.invariant-loop-top
invariant-loop-top l = l.on ≡ put_all l.listed l.fn.on (tops_to l.top)
