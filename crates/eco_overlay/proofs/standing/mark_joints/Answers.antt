use Rattle.std.proofs.Common.{refl, ap, ◌∙◌, map, subst, sym}
use Rattle.eco_overlay.specs.PinMoves.{names_in, marked, marked_by, AreInOrder}
use Rattle.eco_overlay.proofs.Marking.{keeps_order, none_marked_by, one_marked_by}
use Rattle.eco_overlay.proofs.standing.mark_joints.Goals as goal

pub loop-joint-init : goal.loop-joint-init
loop-joint-init c = none_marked_by c.args.text.now c.args.net.now c.args.moves.now

pub mark_joint-requires : goal.mark_joint-requires
mark_joint-requires c =
    subst AreInOrder (sym c.loop-joint.invariant) (keeps_order (marked_by c.args.text.now c.args.net.now c.loop-joint.yielded) c.args.moves.now (λ m. refl) c.requires)

pub loop-joint-preserved : goal.loop-joint-preserved
loop-joint-preserved c =
    c.mark_joint.ensures ∙ ap (map (marked (names_in c.args.text.now c.in-Some.joint) c.args.net.now)) c.loop-joint.invariant
    ∙ one_marked_by c.args.text.now c.args.net.now c.loop-joint.yielded c.in-Some.joint c.args.moves.now
