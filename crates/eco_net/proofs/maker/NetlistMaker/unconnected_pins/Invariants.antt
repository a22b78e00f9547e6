use Rattle.std.proofs.Common.{◌≡◌, ◌*◌, ◌≤◌, take}
use Rattle.std.specs.List.{sum_by}
use Rattle.eco_net.proofs.JoinedNames.{off_count}
use Rattle.eco_net.proofs.maker.NetlistMaker.unconnected_pins.Given as goal

abbrev pub invariant-loop-comp : goal.invariant-loop-comp
invariant-loop-comp l = record { counted : l.count ≡ sum_by off_count (take l.comp l.self.comps); fits : l.count ≤ l.comp * 4294967295 }
