use Rattle.std.proofs.Common.{None, ◌≡◌, ◌∙◌, sym, ap, refl, Some, List, length, slice_set, slice_get, subst}
use Rattle.std.proofs.lemmas.Option.{slice_get_read, slice_get_within}
use Rattle.eco_net.specs.declared.rows.CompRow.{CompRow}
use Rattle.eco_net.specs.declared.ids.PinRef.TheVariants.{Pin}
use Rattle.eco_net.specs.Listing.{Listing, without_joint, IsKnownPin, netlist, numbered_pin}
use Rattle.eco_net.specs.Kept.{IsIndexed}
use Rattle.eco_net.proofs.Places.{has_pin_row}
use Rattle.eco_net.specs.Changes.{with_pin_off}
use Rattle.eco_net.proofs.Added.{joint_put, joint_set}
use Rattle.eco_net.proofs.Effects.{pin_off_is}
use Rattle.eco_net.proofs.maker.NetlistMaker.part.Goals as goal

abbrev before : goal.After-self-1 → Listing
before c = record { nets = c.self.inside.nets.items; comps = c.self.inside.comps.items; tops = c.self.inside.tops.items; reserved = c.self.inside.reserved.items }

abbrev after : goal.After-self-1 → List CompRow
after c = slice_set c.self.inside.comps.items c.args.comp.0 (record { name = c.index_mut-row.result.now.name; kind = c.index_mut-row.result.now.kind; place = c.index_mut-row.result.now.place; joined = c.take_off.new.self })

joined : (c : goal.After-self-1) → after c ≡ without_joint c.self.inside.comps.items c.args.comp.0 c.args.pin
joined c =
    let cs = c.self.inside.comps.items in
    let row = c.index_mut-row.result.now in
    let k = has_pin_row (slice_get cs c.args.comp.0) c.args.pin (subst (λ (L : Listing). IsKnownPin L (Pin c.args.comp c.args.pin)) (sym c.self.view_is) c.requires) in
    let e : slice_get cs c.args.comp.0 ≡ Some row = slice_get_read cs (length cs) c.args.comp.0 row refl (slice_get_within cs c.args.comp.0 k.0 k.1) c.index_mut-row.ensures.value in
    ap (λ j. slice_set cs c.args.comp.0 (record { name = row.name; kind = row.kind; place = row.place; joined = j })) c.take_off.ensures
    ∙ joint_set cs c.args.comp.0 c.args.pin None row e

pub invariant_of-self : goal.invariant_of-self
invariant_of-self c =
    subst (λ cs. IsIndexed (record { nets = c.self.inside.nets.items; comps = cs; tops = c.self.inside.tops.items; reserved = c.self.inside.reserved.items }) c.self.inside.net_places c.self.inside.comp_places c.self.inside.reserved_places) (sym (joined c))
    (joint_put (before c) _ _ _ c.self.invariant c.args.comp.0 c.args.pin None tt)

pub returns-clause-rows : goal.returns-clause-rows
returns-clause-rows c =
    let to : List CompRow → Listing = λ cs. record { nets = c.self.inside.nets.items; comps = cs; tops = c.self.inside.tops.items; reserved = c.self.inside.reserved.items } in
    ap to (joined c)
    ∙ ap (λ (L : Listing). record L { comps = without_joint L.comps c.args.comp.0 c.args.pin }) c.self.view_is

pub returns-clause-named : goal.returns-clause-named
returns-clause-named c =
    let L = before c in
    ap (λ cs. netlist (record L { comps = cs })) (joined c)
    ∙ pin_off_is L c.self.invariant.listing c.args.comp c.args.pin (subst (λ (L : Listing). IsKnownPin L (Pin c.args.comp c.args.pin)) (sym c.self.view_is) c.requires)
    ∙ ap (λ (M : Listing). with_pin_off (netlist M) (numbered_pin M (Pin c.args.comp c.args.pin))) c.self.view_is
