use Rattle.std.proofs.Common.{◌≡◌, ◌++◌, drop, map}
use Rattle.eco_order_file.specs.Names.{Name}
use Rattle.eco_order_file.specs.Rules.{pin_of}
use Rattle.eco_order_file.proofs.keeping.move_keys.Given as goal

abbrev pub invariant-loop-moved : goal.invariant-loop-moved
invariant-loop-moved l =
    map {B = Name × Name} (λ k. (k.0.now, k.1.now)) l.keys.items ++ map pin_of (drop l.moved-index l.moves) ≡ map pin_of l.moves
