use Rattle.eco_overlay.proofs.Changing.{move_more}
use Rattle.eco_overlay.proofs.of_joints.moves_of.Goals as goal

pub loop-joint-preserved : goal.loop-joint-preserved
loop-joint-preserved c =
    move_more c.args.joints.now c.loop-joint.joint-index c.joint-item.result c.loop-joint.moves.items c.push.new.self.items c.move_of.result c.loop-joint-test.true c.joint-item.is c.in_ok-push.ensures.items c.move_of.ensures.named c.move_of.ensures.unmarked c.loop-joint.invariant
