use Rattle.std.proofs.Common.{◌∙◌, sym, ap}
use Rattle.eco_wire.specs.Lines.{is_close}
use Rattle.eco_wire.proofs.Items.{close_behind}
use Rattle.eco_wire.proofs.fields.lists_close.Goals as goal

pub loop-end-preserved : goal.loop-end-preserved
loop-end-preserved c =
    let item = c.split_at.ensures in
    let other = ap is_close (sym item.front) ∙ (sym c.is_close.ensures ∙ c.if-is_close.false) in
    close_behind c.loop-end.rest.now c.split_at.result.1.now c.args.value.now c.in-Some.end c.in-Some.ensures item.back other c.loop-end.invariant
