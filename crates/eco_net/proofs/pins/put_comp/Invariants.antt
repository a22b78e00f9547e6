use Rattle.std.proofs.Common.{◌≡◌}
use Rattle.eco_net.specs.ByNumber.{pins_to}
use Rattle.eco_net.specs.PinLists.{put_all}
use Rattle.eco_net.proofs.pins.put_comp.Given as goal

abbrev pub invariant-loop-pin : goal.invariant-loop-pin
invariant-loop-pin l = l.on ≡ put_all l.listed l.fn.on (pins_to l.comp l.pin)
