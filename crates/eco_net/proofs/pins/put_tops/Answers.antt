use Rattle.std.proofs.Common.{◌∙◌, ap, arith}
use Rattle.std.proofs.lemmas.List.FromFn.{length-map-range_with_len}
use Rattle.eco_net.specs.declared.ids.PinRef.TheVariants.{Top}
use Rattle.eco_net.specs.ByNumber.{end_of, tops_to}
use Rattle.eco_net.proofs.ByNets.{tops_more}
use Rattle.eco_net.proofs.Filling.{step_ends, step_few, step_put}
use Rattle.eco_net.proofs.pins.put_tops.Goals as goal

pub put-requires-clause-known : goal.put-requires-clause-known
put-requires-clause-known c =
    omega (arith, c.top.ensures.known, c.requires.each_net, step_ends c.args.listed.now c.args.on.now c.loop-top.on (tops_to c.loop-top.top) c.loop-top.invariant)

pub put-requires-clause-few : goal.put-requires-clause-few
put-requires-clause-few c =
    omega (arith, c.requires.few c.top.result.now.net, step_few c.args.listed.now c.args.on.now c.loop-top.on (tops_to c.loop-top.top) c.loop-top.invariant c.top.result.now.net, length-map-range_with_len (λ t. Top (record { 0 = t })) 0 c.loop-top.top)

pub loop-top-preserved : goal.loop-top-preserved
loop-top-preserved c =
    c.put.ensures
    ∙ step_put c.args.listed.now c.args.on.now c.loop-top.on (tops_to c.loop-top.top) c.loop-top.invariant (Top (record { 0 = c.loop-top.top })) _ _ (ap end_of c.top.ensures.at) (tops_more c.loop-top.top)
