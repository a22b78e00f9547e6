use Rattle.std.proofs.Common.{◌≡◌, ◌∙◌, [], ◌∷◌, ◌++◌, map, sym, ap, inr, ⊎_elim, append_assoc}
use Rattle.std.proofs.lemmas.List.{map_push}
use Rattle.eco_net.specs.Netlist.{Name}
use Rattle.eco_net.specs.Listing.{net_name}
use Rattle.eco_elaborate.specs.Stated.{named_joint, pins_among}
use Rattle.eco_elaborate.specs.Stages.{stated_joints}
use Rattle.eco_elaborate.proofs.FindingPins.{pins_among-append}
use Rattle.eco_elaborate.proofs.found_pins.add_all_waiting.Goals as goal

pub loop-joint-preserved : goal.loop-joint-preserved
loop-joint-preserved c = (
  λ nets.
      let n : Name = net_name nets c.args.net.0 in
      let f = named_joint c.args.text.now in
      let js = c.loop-joint.yielded in
      let all : pins_among n (map f (js ++ c.in-Some.joint ∷ [])) ≡ pins_among n (map f js) ++ pins_among n (f c.in-Some.joint ∷ []) =
      ap (pins_among n) (map_push f js c.in-Some.joint) ∙ pins_among-append n (map f js) (f c.in-Some.joint ∷ []) in
      c.in_ok-add_waiting.ensures.joints nets
      ∙ ap (λ ks. ks ++ pins_among n (f c.in-Some.joint ∷ [])) (c.loop-joint.invariant.0 nets)
      ∙ append_assoc (stated_joints c.args.text.now nets c.args.waiting.now.items) (pins_among n (map f js)) (pins_among n (f c.in-Some.joint ∷ []))
      ∙ ap (λ ks. stated_joints c.args.text.now nets c.args.waiting.now.items ++ ks) (sym all),
  λ s h. ⊎_elim (c.loop-joint.invariant.1 s) (λ e. inr e) (c.in_ok-add_waiting.ensures.nets s h),
)
