use Rattle.std.proofs.Common.{[], ◌∷◌, map, sym, subst}
use Rattle.std.proofs.lemmas.List.{map_push}
use Rattle.eco_pin_faults.specs.Held.{AddsPlaces}
use Rattle.eco_pin_faults.specs.Places.{PinPlace, joint_place}
use Rattle.eco_pin_faults.proofs.Maps.{more_added}
use Rattle.eco_pin_faults.proofs.first_nets.add_joints.Goals as goal

pub loop-joint-preserved : goal.loop-joint-preserved
loop-joint-preserved c =
    let f = joint_place c.args.text.now c.args.net.now in
    subst (AddsPlaces c.args.nets.now c.add_place.new.nets) (sym (map_push f c.loop-joint.yielded c.in-Some.joint))
    (more_added (map f c.loop-joint.yielded) (f c.in-Some.joint ∷ []) c.args.nets.now c.loop-joint.nets c.add_place.new.nets c.loop-joint.invariant
    (subst (λ (p : PinPlace). AddsPlaces c.loop-joint.nets c.add_place.new.nets (p ∷ [])) c.joint_at-place.ensures c.in_ok-add_place.ensures))
