use Rattle.std.proofs.Common.{◌∙◌, ◌++◌, refl, sym, ap, inl, inr, ⊎_elim, subst, ◌<◌, length}
use Rattle.eco_net.specs.declared.ids.NetId.{NetId}
use Rattle.eco_elaborate.specs.Stages.{stated_joints}
use Rattle.eco_elaborate.proofs.FindingPins.{number_named, number_within, statement_pins}
use Rattle.eco_elaborate.proofs.found_pins.add_statement.Goals as goal

pub returns-clause-joints : goal.returns-clause-joints
returns-clause-joints c =
    let L = c.args.maker.now in
    c.in_ok-add_all_waiting.ensures.joints L.nets
    ∙ ap (λ js. stated_joints c.args.text.now L.nets c.args.waiting.now.items ++ js)
    (statement_pins c.args.text.now c.args.net.now _ _ (number_named L c.number_of-number.result.0 _ c.number_of-number.ensures ∙ c.bytes_at.ensures) refl)

pub returns-clause-nets : goal.returns-clause-nets
returns-clause-nets c s h =
    let within = number_within c.args.maker.now c.number_of-number.result.0 _ c.number_of-number.ensures in
    ⊎_elim inl (λ e. inr (subst (λ (n : NetId). n.0 < length c.args.maker.now.nets) (sym e) within)) (c.in_ok-add_all_waiting.ensures.nets s h)
