use Rattle.std.proofs.Common.{refl, false}
use Rattle.eco_text.specs.declared.word.Word.{Word}
use Rattle.eco_def.specs.declared.design.Joint.{Joint}
use Rattle.eco_def.specs.Near.{joints_behind}
use Rattle.eco_def.proofs.NearJoints.{place_behind, one_more_kept}
use Rattle.eco_def.proofs.joints.near_joints.Goals as goal

pub loop-joint-init : goal.loop-joint-init
unfolding joints_behind place_behind
loop-joint-init c = rw c.in_ok-near.ensures.items (refl, refl)

pub loop-joint-preserved : goal.loop-joint-preserved
loop-joint-preserved c =
    let w : Word = record { start = 0; end = 0; quoted = false } in
    let d : Joint = record { comp = w; pin = w; start = 0; end = 0 } in
    one_more_kept c.args.from c.loop-joint.near.items _ c.in-Some.next c.args.joints.now c.loop-joint.joint-index d c.loop-joint.place
    c.loop-joint-test.true c.in_ok-push.ensures.ok c.loop-joint.invariant.0 c.loop-joint.invariant.1 c.in-Some.ensures
