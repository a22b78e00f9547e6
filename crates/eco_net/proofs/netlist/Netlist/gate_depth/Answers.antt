use Rattle.std.proofs.Common.{◌∙◌, sym, ap, ap₂, max, take}
use Rattle.eco_net.specs.DepthsOf.{deepest}
use Rattle.eco_net.proofs.Ranges.{take_next}
use Rattle.eco_net.proofs.DepthNumbers.{deepest_push}
use Rattle.eco_net.proofs.netlist.Netlist.gate_depth.Goals as goal

pub loop-input-preserved : goal.loop-input-preserved
loop-input-preserved c =
    let ds = c.args.depths.now in
    let js = c.comp-row.result.now.joined in
    c.max-deepest.ensures
    ∙ ap₂ max c.depth_at.ensures c.loop-input.invariant
    ∙ sym (ap (deepest ds) (take_next js c.loop-input.input c.get.result c.get.ensures) ∙ deepest_push ds (take c.loop-input.input js) c.get.result)
