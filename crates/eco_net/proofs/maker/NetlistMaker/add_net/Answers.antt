use Rattle.std.proofs.Common.{◌∙◌, ap, ◌≡◌, ◌<◌, sym, false, length, None, subst}
use Rattle.std.specs.FinMap.{get}
use Rattle.eco_common.specs.declared.limits.TheConstants.{MAX_LISTED_NETS}
use Rattle.eco_net.specs.Listing.{Listing, netlist}
use Rattle.eco_net.specs.Changes.{with_net}
use Rattle.eco_net.proofs.Added.{net_added}
use Rattle.eco_net.proofs.Effects.{net_is_added}
use Rattle.eco_net.proofs.maker.NetlistMaker.add_net.Goals as goal

pub invariant_of-self-2 : goal.invariant_of-self-2
invariant_of-self-2 c =
    let L : Listing = record { nets = c.self.inside.nets.items; comps = c.self.inside.comps.items; tops = c.self.inside.tops.items; reserved = c.self.inside.reserved.items } in
    let new : get (netlist L).nets c.args.name.now ≡ None = subst (λ (M : Listing). get (netlist M).nets c.args.name.now ≡ None) (sym c.self.view_is) c.requires.new_name in
    let few : length L.nets < MAX_LISTED_NETS = subst (λ (M : Listing). length M.nets < MAX_LISTED_NETS) (sym c.self.view_is) c.requires.few in
    rw (c.push_reserved.ensures.items, c.in_ok-reserve.ensures.items, c.in_ok-insert.ensures.ok, c.in_ok-of.ensures, c.len-number.ensures, c.self.inside.nets.ok.0)
    (net_added L _ _ _ c.self.invariant (record { name = c.args.name.now; supply = c.args.supply; tie = false }) new few)

pub returns-clause-named : goal.returns-clause-named
returns-clause-named c =
    let L : Listing = record { nets = c.self.inside.nets.items; comps = c.self.inside.comps.items; tops = c.self.inside.tops.items; reserved = c.self.inside.reserved.items } in
    let new : get (netlist L).nets c.args.name.now ≡ None = subst (λ (M : Listing). get (netlist M).nets c.args.name.now ≡ None) (sym c.self.view_is) c.requires.new_name in
    let e : netlist (record L { nets = c.push_reserved.new.self.items }) ≡ with_net (netlist L) c.args.name.now c.args.supply =
    rw (c.push_reserved.ensures.items, c.in_ok-reserve.ensures.items, c.in_ok-of.ensures) (net_is_added L c.self.invariant.listing c.args.name.now c.args.supply new) in
    e ∙ ap (λ (M : Listing). with_net (netlist M) c.args.name.now c.args.supply) c.self.view_is
