use Rattle.std.proofs.Common.{◌∙◌, ap}
use Rattle.eco_patch_laws.specs.Realisation.{feed_net}
use Rattle.eco_one_gate.proofs.FedPins.{joint_more}
use Rattle.eco_one_gate.proofs.gate_joints.add_fed.Goals as goal

pub returns-in_ok-push : goal.returns-in_ok-push
returns-in_ok-push c =
    joint_more c.args.joints.now.items c.push.new.self.items c.in_ok-joint.field-0 c.args.one.now.spare c.args.pin.now c.in-Some.net.now _ c.in_ok-push.ensures.items c.in_ok-joint.ensures
    (c.in-Some.ensures ∙ ap (λ ns. feed_net c.args.low.now c.args.high.now ns c.args.feed) c.deref.ensures.value)
