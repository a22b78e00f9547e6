use Rattle.std.proofs.Common.{◌∷◌, [], sym, ◌∙◌}
use Rattle.eco_def.specs.View.{design_in}
use Rattle.eco_def.specs.Named.{names_of}
use Rattle.eco_issued_laws.specs.Changes.{NewJoint}
use Rattle.eco_overlay.proofs.Readings.{has_comp_is, has_net_is, stands_is, no_comp, not_on_net, no_net, no_fault}
use Rattle.eco_overlay.proofs.moving.move_joint.Goals as goal

pub returns-then-not-knows_comp-clause-moves : goal.returns-then-not-knows_comp-clause-moves
returns-then-not-knows_comp-clause-moves c =
    let text = c.args.text.now in
    let d = c.args.design.now in
    no_comp (names_of (design_in text d)) c.args.comp.now c.args.pin.now c.args.from.now c.args.to.now
    (has_comp_is text c.args.comp.now d ∙ sym (rw c.as_slice.ensures at c.knows_comp.ensures) ∙ c.if-not-knows_comp.true)

pub returns-then-not-stands-clause-moves : goal.returns-then-not-stands-clause-moves
returns-then-not-stands-clause-moves c =
    let text = c.args.text.now in
    let d = c.args.design.now in
    let n : NewJoint = record { comp = c.args.comp.now; pin = c.args.pin.now; net = c.args.from.now } in
    not_on_net (names_of (design_in text d)) c.args.comp.now c.args.pin.now c.args.from.now c.args.to.now
    (has_comp_is text c.args.comp.now d ∙ sym (rw c.as_slice.ensures at c.knows_comp.ensures) ∙ c.if-not-knows_comp.false)
    (stands_is text n d ∙ sym (rw c.as_slice-2.ensures at c.stands.ensures) ∙ c.if-not-stands.true)

pub returns-then-not-knows_net-clause-moves : goal.returns-then-not-knows_net-clause-moves
returns-then-not-knows_net-clause-moves c =
    let text = c.args.text.now in
    let d = c.args.design.now in
    let n : NewJoint = record { comp = c.args.comp.now; pin = c.args.pin.now; net = c.args.from.now } in
    no_net (names_of (design_in text d)) c.args.comp.now c.args.pin.now c.args.from.now c.args.to.now
    (has_comp_is text c.args.comp.now d ∙ sym (rw c.as_slice.ensures at c.knows_comp.ensures) ∙ c.if-not-knows_comp.false)
    (stands_is text n d ∙ sym (rw c.as_slice-2.ensures at c.stands.ensures) ∙ c.if-not-stands.false)
    (has_net_is text c.args.to.now d ∙ sym c.knows_net.ensures ∙ c.if-not-knows_net.true)

pub returns-clause-moves : goal.returns-clause-moves
returns-clause-moves c =
    let text = c.args.text.now in
    let d = c.args.design.now in
    let n : NewJoint = record { comp = c.args.comp.now; pin = c.args.pin.now; net = c.args.from.now } in (
      no_fault (names_of (design_in text d)) c.args.comp.now c.args.pin.now c.args.from.now c.args.to.now
          (has_comp_is text c.args.comp.now d ∙ sym (rw c.as_slice.ensures at c.knows_comp.ensures) ∙ c.if-not-knows_comp.false)
          (stands_is text n d ∙ sym (rw c.as_slice-2.ensures at c.stands.ensures) ∙ c.if-not-stands.false)
          (has_net_is text c.args.to.now d ∙ sym c.knows_net.ensures ∙ c.if-not-knows_net.false),
      c.in_ok-overlay_of_one.ensures,
    )

pub returns-clause-made : goal.returns-clause-made
returns-clause-made c =
    let m : NewJoint = record { comp = c.args.comp.now; pin = c.args.pin.now; net = c.args.to.now } in
    (m ∷ [], [], c.in_ok-overlay_of_one.ensures)
