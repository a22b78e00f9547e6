use Rattle.std.proofs.Common.{List, None, Some, sym, ap, ◌∙◌, subst}
use Rattle.std.specs.List.{Contains}
use Rattle.eco_net.specs.Netlist.{Name}
use Rattle.eco_text.specs.Cursor.{word_bytes}
use Rattle.eco_elaborate.specs.Stated.{named_comps}
use Rattle.eco_elaborate.proofs.FindingPins.{looked_up, supply_of_none, supply_numbered, no_such_comp}
use Rattle.eco_elaborate.proofs.found_pins.is_supply_pin.Goals as goal

pub returns-in-None : goal.returns-in-None
returns-in-None g c =
    let comp = word_bytes c.args.lookup.now.text.now c.args.joint.now.comp in
    let pin = word_bytes c.args.lookup.now.text.now c.args.joint.now.pin in
    sym (supply_of_none (g.M.Macros.powers c.args.lookup.now.macros.now) (named_comps c.args.lookup.now.text.now c.args.lookup.now.comps.now) comp pin
    (λ h. no_such_comp c.args.lookup.now.maker.now c.facts.ensures.listing comp (looked_up c.args.lookup.now.maker.now comp _ None c.in-None.is c.requires.comp) (subst (λ (ns : List Name). Contains ns comp) (sym c.requires.numbers) h)))

pub returns-in-Some : goal.returns-in-Some
returns-in-Some g c =
    let powers = g.M.Macros.powers c.args.lookup.now.macros.now in
    let comp = word_bytes c.args.lookup.now.text.now c.args.joint.now.comp in
    let pin = word_bytes c.args.lookup.now.text.now c.args.joint.now.pin in
    c.is_supply.ensures
    ∙ ap (λ (p : Name). powers c.bytes_at-model.result.now p) c.bytes_at.ensures
    ∙ ap (λ (m : Name). powers m pin) c.bytes_at-model.ensures
    ∙ sym (supply_numbered powers c.args.lookup.now.maker.now c.facts.ensures.listing c.args.lookup.now.text.now c.args.lookup.now.comps.now comp pin c.in-Some.comp.id.0 c.requires.numbers (looked_up c.args.lookup.now.maker.now comp _ (Some c.in-Some.comp) c.in-Some.is c.requires.comp).0)
