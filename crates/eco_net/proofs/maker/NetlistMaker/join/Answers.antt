use Rattle.std.proofs.Common.{◌≡◌, ◌<◌, ◌∙◌, sym, ap, refl, Some, List, length, slice_set, slice_get, subst}
use Rattle.std.proofs.lemmas.Option.{slice_get_read, slice_get_within}
use Rattle.eco_net.specs.declared.rows.CompRow.{CompRow}
use Rattle.eco_net.specs.declared.ids.PinRef.TheVariants.{Pin}
use Rattle.eco_net.specs.Listing.{Listing, with_joint, IsKnownPin, netlist, numbered_pin, net_name}
use Rattle.eco_net.specs.Kept.{IsIndexed}
use Rattle.eco_net.proofs.Places.{has_pin_row}
use Rattle.eco_net.specs.Changes.{with_pin_on}
use Rattle.eco_net.proofs.Added.{joint_put, joint_set}
use Rattle.eco_net.proofs.Effects.{pin_on_is}
use Rattle.eco_net.proofs.maker.NetlistMaker.join.Goals as goal

abbrev before : goal.After-self-1 → Listing
before c = record { nets = c.self.inside.nets.items; comps = c.self.inside.comps.items; tops = c.self.inside.tops.items; reserved = c.self.inside.reserved.items }

abbrev after : goal.After-self-1 → List CompRow
after c = slice_set c.self.inside.comps.items c.args.comp.0 (record { name = c.index_mut-row.result.now.name; kind = c.index_mut-row.result.now.kind; place = c.index_mut-row.result.now.place; joined = c.put.new.self })

joined : (c : goal.After-self-1) → after c ≡ with_joint c.self.inside.comps.items c.args.comp.0 c.args.pin c.args.net.0
joined c =
    let cs = c.self.inside.comps.items in
    let row = c.index_mut-row.result.now in
    let k = has_pin_row (slice_get cs c.args.comp.0) c.args.pin (subst (λ (L : Listing). IsKnownPin L (Pin c.args.comp c.args.pin)) (sym c.self.view_is) c.requires.known_pin) in
    let e : slice_get cs c.args.comp.0 ≡ Some row = slice_get_read cs (length cs) c.args.comp.0 row refl (slice_get_within cs c.args.comp.0 k.0 k.1) c.index_mut-row.ensures.value in
    ap (λ j. slice_set cs c.args.comp.0 (record { name = row.name; kind = row.kind; place = row.place; joined = j })) c.put.ensures
    ∙ joint_set cs c.args.comp.0 c.args.pin (Some c.args.net.0) row e

pub invariant_of-self : goal.invariant_of-self
invariant_of-self c =
    let known : c.args.net.0 < length (before c).nets = subst (λ (L : Listing). c.args.net.0 < length L.nets) (sym c.self.view_is) c.requires.known_net in
    subst (λ cs. IsIndexed (record { nets = c.self.inside.nets.items; comps = cs; tops = c.self.inside.tops.items; reserved = c.self.inside.reserved.items }) c.self.inside.net_places c.self.inside.comp_places c.self.inside.reserved_places) (sym (joined c))
    (joint_put (before c) _ _ _ c.self.invariant c.args.comp.0 c.args.pin (Some c.args.net.0) known)

pub returns-clause-ok : goal.returns-clause-ok
returns-clause-ok c =
    let to : List CompRow → Listing = λ cs. record { nets = c.self.inside.nets.items; comps = cs; tops = c.self.inside.tops.items; reserved = c.self.inside.reserved.items } in
    ap to (joined c)
    ∙ ap (λ (L : Listing). record L { comps = with_joint L.comps c.args.comp.0 c.args.pin c.args.net.0 }) c.self.view_is

pub returns-clause-named : goal.returns-clause-named
returns-clause-named c =
    let L = before c in
    ap (λ cs. netlist (record L { comps = cs })) (joined c)
    ∙ pin_on_is L c.self.invariant.listing c.args.comp c.args.pin c.args.net.0 (subst (λ (L : Listing). IsKnownPin L (Pin c.args.comp c.args.pin)) (sym c.self.view_is) c.requires.known_pin)
    ∙ ap (λ (M : Listing). with_pin_on (netlist M) (numbered_pin M (Pin c.args.comp c.args.pin)) (net_name M.nets c.args.net.0)) c.self.view_is
