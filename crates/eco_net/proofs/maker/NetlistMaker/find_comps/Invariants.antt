use Rattle.std.proofs.Common.{◌≡◌, map, take}
use Rattle.std.specs.Option.{option_map}
use Rattle.eco_net.specs.ByNumber.{found_of}
use Rattle.eco_net.proofs.maker.NetlistMaker.find_comps.Given as goal

abbrev pub invariant-loop-place : goal.invariant-loop-place
invariant-loop-place l = l.found.items ≡ map (option_map (found_of l.self)) (take l.place-index l.place-items)
