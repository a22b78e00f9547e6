use Rattle.std.proofs.Common.{◌≡◌, ◌++◌, take, length}
use Rattle.eco_net.specs.ByNumber.{tops_to, comp_pins}
use Rattle.eco_net.specs.PinLists.{put_all}
use Rattle.eco_net.proofs.pins.put_pins.Given as goal

abbrev pub invariant-loop-comp : goal.invariant-loop-comp
invariant-loop-comp l = l.on ≡ put_all l.listed l.fn.on (tops_to (length l.listed.tops) ++ comp_pins 0 (take l.comp l.listed.comps))
