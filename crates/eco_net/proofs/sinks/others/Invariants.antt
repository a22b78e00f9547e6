use Rattle.std.proofs.Common.{◌≡◌, take}
use Rattle.std.specs.List.{filter}
use Rattle.eco_net.specs.SinksOf.{is_other}
use Rattle.eco_net.proofs.sinks.others.Given as goal

abbrev pub invariant-loop-pin : goal.invariant-loop-pin
invariant-loop-pin l = l.found.items ≡ filter (is_other l.driver) (take l.pin-index l.pins)
