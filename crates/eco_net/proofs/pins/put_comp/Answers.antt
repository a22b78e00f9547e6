use Rattle.std.proofs.Common.{◌∙◌, ap, arith, Some, None}
use Rattle.std.proofs.lemmas.List.FromFn.{length-map-range_with_len}
use Rattle.eco_net.specs.declared.ids.PinRef.TheVariants.{Pin}
use Rattle.eco_net.specs.ByNumber.{pins_to}
use Rattle.eco_net.proofs.ByNets.{pins_more, joint_of}
use Rattle.eco_net.proofs.Filling.{step_ends, step_few, step_put}
use Rattle.eco_net.proofs.pins.put_comp.Goals as goal
use Rattle.eco_net.proofs.pins.put_comp.Goals.{in-Some, in_default}

pub put-requires-clause-known : goal.put-requires-clause-known
put-requires-clause-known c =
    omega (arith, c.comp-row.ensures.row.known c.loop-pin.pin c.in-Some.net (c.get.ensures ∙ ap Some c.in-Some.is), c.requires.each_net, step_ends c.args.listed.now c.args.on.now c.loop-pin.on (pins_to c.args.comp c.loop-pin.pin) c.loop-pin.invariant)

pub put-requires-clause-few : goal.put-requires-clause-few
put-requires-clause-few c =
    omega (arith, c.requires.few c.in-Some.net, step_few c.args.listed.now c.args.on.now c.loop-pin.on (pins_to c.args.comp c.loop-pin.pin) c.loop-pin.invariant c.in-Some.net, length-map-range_with_len (λ k. Pin (record { 0 = c.args.comp }) k) 0 c.loop-pin.pin)

pub loop-pin-preserved : goal.loop-pin-preserved
loop-pin-preserved c =
    let L = c.args.listed.now in
    let k = c.loop-pin.pin in
    let p = Pin (record { 0 = c.args.comp }) k in
    let joint = joint_of L c.args.comp k c.comp-row.result.now c.get.result c.comp-row.ensures.at c.get.ensures in
    elim c.match-get.branch [
      | in-Some w ↦
          w.on-is
          ∙ w.put.ensures
          ∙ step_put L c.args.on.now c.loop-pin.on (pins_to c.args.comp k) c.loop-pin.invariant p (Some w.in-Some.net) _ (joint ∙ w.in-Some.is) (pins_more c.args.comp k)
      | in_default w ↦
          w.on-is
          ∙ step_put L c.args.on.now c.loop-pin.on (pins_to c.args.comp k) c.loop-pin.invariant p None _ (joint ∙ w.in_default.is) (pins_more c.args.comp k)
    ]
