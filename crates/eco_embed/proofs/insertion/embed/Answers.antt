use Rattle.std.proofs.Common.{◌≡◌, ◌<◌, length, get_or, ◌∙◌, ap, subst, arith}
use Rattle.eco_embed.proofs.Outputs.{NoneBefore, master_parts, item_at, none_more, is_first, none_at_all}
use Rattle.eco_embed.proofs.insertion.embed.Goals as goal

pub loop-output-preserved : goal.loop-output-preserved
loop-output-preserved c =
    let master = c.args.master.now in
    let o = c.function-item.result in
    let i = c.loop-output.output in
    let value = c.outputs-function-items.ensures.value in
    let parts = master_parts master.inputs master.outputs c.outputs-function-items.ensures.is_master in
    let within : i < length master.outputs = omega (arith, c.loop-output-test.true, ap length value) in
    let here = c.function-item.is ∙ ap (λ os. get_or os i o) value in
    none_more c.args.want.now master i o (item_at master.outputs i o within here) parts.few (parts.over i o within here) c.loop-output.invariant c.in_default.ensures

pub returns-in-Some : goal.returns-in-Some
returns-in-Some c =
    let master = c.args.master.now in
    let o = c.function-item.result in
    let i = c.loop-output.output in
    let value = c.outputs-function-items.ensures.value in
    let parts = master_parts master.inputs master.outputs c.outputs-function-items.ensures.is_master in
    let within : i < length master.outputs = omega (arith, c.loop-output-test.true, ap length value) in
    let here = c.function-item.is ∙ ap (λ os. get_or os i o) value in
    is_first c.args.want.now master i o (item_at master.outputs i o within here) parts.few (parts.over i o within here) c.loop-output.invariant c.in-Some.pins c.in-Some.ensures

pub returns : goal.returns
returns c =
    let master = c.args.master.now in
    let end : c.loop-output.output ≡ length master.outputs =
    omega (arith, c.loop-output-test.false, c.loop-output.auto.output-end, ap length c.outputs-function-items.ensures.value) in
    none_at_all c.args.want.now master (subst (NoneBefore c.args.want.now master) end c.loop-output.invariant)
