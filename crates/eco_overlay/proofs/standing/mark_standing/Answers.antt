use Rattle.std.proofs.Common.{refl, ap, ◌∙◌, take, map, subst, sym}
use Rattle.eco_text.specs.Cursor.{word_bytes}
use Rattle.eco_overlay.specs.PinMoves.{marked_by, marked_in, AreInOrder}
use Rattle.eco_overlay.proofs.Marking.{keeps_order, none_marked_in, one_marked_in}
use Rattle.eco_overlay.proofs.standing.mark_standing.Goals as goal

pub loop-net-init : goal.loop-net-init
loop-net-init c = none_marked_in c.args.text.now c.args.moves.now

pub mark_joints-requires : goal.mark_joints-requires
mark_joints-requires c =
    subst AreInOrder (sym c.loop-net.invariant) (keeps_order (marked_in c.args.text.now (take c.loop-net.net-index c.args.nets.now)) c.args.moves.now (λ m. refl) c.requires)

pub loop-net-preserved : goal.loop-net-preserved
loop-net-preserved c =
    let s = c.net-item.result in
    let ss = c.args.nets.now in
    let i = c.loop-net.net-index in
    let at = one_marked_in c.args.text.now ss i s c.args.moves.now c.loop-net-test.true in
    rw c.bytes_at.ensures at c.mark_joints.ensures ∙ ap (map (marked_by c.args.text.now (word_bytes c.args.text.now s.name) s.joints)) c.loop-net.invariant
    ∙ ap (λ t. map (marked_by c.args.text.now (word_bytes c.args.text.now t.name) t.joints) (map (marked_in c.args.text.now (take i ss)) c.args.moves.now)) c.net-item.is ∙ at
