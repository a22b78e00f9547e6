use Rattle.std.proofs.Common.{rules}
use Rattle.std.proofs.lemmas.Fn.{always_returns_same}
use Rattle.eco_overlay.proofs.Orders.{move_before, moves_weak, sorted_moves}
use Rattle.eco_overlay.proofs.moves.put_in_order.Goals as goal

pub returns-clause-order : goal.returns-clause-order
returns-clause-order c =
    sorted_moves c.args.moves.now.items c.sort_unstable_by.new.self.items c.requires c.sort_unstable_by.ensures.permutation
    (c.sort_unstable_by.ensures.sorted move_before moves_weak (always_returns_same _ _ _ (λ a r f k. search rules)))
