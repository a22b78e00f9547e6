use Rattle.std.proofs.Common.{◌∙◌, sym, ap}
use Rattle.eco_def.specs.Kept.{joints_left}
use Rattle.eco_pin_faults.specs.Held.{place_by}
use Rattle.eco_pin_faults.specs.Places.{joint_place}
use Rattle.eco_pin_faults.proofs.Walked.{joint_fails, joint_passes}
use Rattle.eco_pin_faults.proofs.first_place.first_of_joints.Goals as goal

pub returns-then-passes : goal.returns-then-passes
returns-then-passes g c =
    joint_passes (joint_place c.args.text.now c.args.net.now) (g.T.PlaceTest.passes c.args.test.now) _ c.args.joints.now (ap joints_left c.into_iter-joint-iterator.ensures.into_iter_gives ∙ c.iter-joint-items.ensures) c.loop-joint.yielded _ c.loop-joint.yielded_by c.next.result c.next.new.self c.in-Some.joint c.in-Some.is c.next.ensures.steps
    (place_by c.joint_at-place.result) c.joint_at-place.ensures c.loop-joint.invariant (sym c.in_ok-passes.ensures ∙ c.if-passes.true)

pub loop-joint-preserved : goal.loop-joint-preserved
loop-joint-preserved g c =
    joint_fails (joint_place c.args.text.now c.args.net.now) (g.T.PlaceTest.passes c.args.test.now) c.loop-joint.yielded c.in-Some.joint (place_by c.joint_at-place.result) c.joint_at-place.ensures
    c.loop-joint.invariant (sym c.in_ok-passes.ensures ∙ c.if-passes.false)
