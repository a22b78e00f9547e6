use Rattle.std.proofs.Common.{◌++◌, ap, ◌∙◌}
use Rattle.eco_overlay.proofs.Writing.{on_ok, ok_items, tail_is}
use Rattle.eco_overlay.proofs.statement.put_tail.Goals as goal

pub returns-then-net : goal.returns-then-net
returns-then-net c =
    on_ok c.extend_from_slice.result
    (λ items. items ∙ ap (λ k. c.args.bytes.now.items ++ k) (tail_is c.args.text.now c.args.net.now.special c.args.net.now c.between.result.now c.joints_end.result c.if-net.true c.between.ensures c.joints_end.ensures))
    (ok_items c.extend_from_slice.result c.extend_from_slice.new.self.items (c.args.bytes.now.items ++ c.between.result.now) c.args.bytes.now.items c.extend_from_slice.ensures.items)
