use Rattle.std.proofs.Common.{arith}
use Rattle.eco_overlay.proofs.fresh.add_count.Goals as goal

pub overflow_add-count : goal.overflow_add-count
overflow_add-count c =
    let small = c.args.changes.now.fresh.small in
    let ok = c.args.changes.now.fresh.ok.1 in
    let few = c.requires in
    let l = c.len.ensures in
    let o = rw c.as_slice.ensures at c.ordinary_count.ensures in
    omega (arith, small, ok, few, l, o)
