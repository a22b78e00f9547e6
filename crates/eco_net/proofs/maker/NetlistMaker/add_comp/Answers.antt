use Rattle.std.proofs.Common.{◌∙◌, ap, ◌≡◌, ◌<◌, sym, length, None, subst, replicate, refl}
use Rattle.std.specs.FinMap.{get}
use Rattle.eco_common.specs.declared.limits.TheConstants.{MAX_LISTED_COMPS}
use Rattle.eco_net.specs.declared.rows.CompRow.{CompRow}
use Rattle.eco_net.specs.Netlist.{pins_of}
use Rattle.eco_net.specs.Listing.{Listing, netlist, given_kind}
use Rattle.eco_net.specs.Changes.{with_comp}
use Rattle.eco_net.proofs.Added.{comp_added, row_of_none}
use Rattle.eco_net.proofs.Effects.{comp_is_added}
use Rattle.eco_net.proofs.maker.NetlistMaker.add_comp.Goals as goal

pub invariant_of-self-2 : goal.invariant_of-self-2
invariant_of-self-2 c =
    let L : Listing = record { nets = c.self.inside.nets.items; comps = c.self.inside.comps.items; tops = c.self.inside.tops.items; reserved = c.self.inside.reserved.items } in
    let new : get (netlist L).comps c.args.name.now ≡ None = subst (λ (M : Listing). get (netlist M).comps c.args.name.now ≡ None) (sym c.self.view_is) c.requires.new_name in
    let few : length L.comps < MAX_LISTED_COMPS = subst (λ (M : Listing). length M.comps < MAX_LISTED_COMPS) (sym c.self.view_is) c.requires.few in
    let row : CompRow = record { name = c.args.name.now; kind = c.args.kind; place = c.args.place; joined = replicate (length (pins_of (given_kind c.args.kind))) None } in
    rw (c.push_reserved.ensures.items, c.in_ok-reserve.ensures.items, c.in_ok-insert.ensures.ok, c.in_ok-of.ensures, c.len-number.ensures, c.self.inside.comps.ok.0, c.in_ok-joined.ensures, c.pin_count.ensures.count)
    (comp_added L _ _ _ c.self.invariant row new few (row_of_none (length L.nets) row (c.pin_count.ensures.is_kind c.requires.own_pins) (length (pins_of (given_kind c.args.kind))) refl refl))

pub returns-clause-named : goal.returns-clause-named
returns-clause-named c =
    let L : Listing = record { nets = c.self.inside.nets.items; comps = c.self.inside.comps.items; tops = c.self.inside.tops.items; reserved = c.self.inside.reserved.items } in
    let new : get (netlist L).comps c.args.name.now ≡ None = subst (λ (M : Listing). get (netlist M).comps c.args.name.now ≡ None) (sym c.self.view_is) c.requires.new_name in
    let e : netlist (record L { comps = c.push_reserved.new.self.items }) ≡ with_comp (netlist L) c.args.name.now (given_kind c.args.kind) c.args.place =
    rw (c.push_reserved.ensures.items, c.in_ok-reserve.ensures.items, c.in_ok-of.ensures, c.in_ok-joined.ensures, c.pin_count.ensures.count) (comp_is_added L c.self.invariant.listing c.args.name.now c.args.kind c.args.place new) in
    e ∙ ap (λ (M : Listing). with_comp (netlist M) c.args.name.now (given_kind c.args.kind) c.args.place) c.self.view_is
