use Rattle.std.proofs.Common.{◌∙◌, ap, ◌≡◌, ◌<◌, sym, length, None, subst}
use Rattle.std.specs.FinMap.{get}
use Rattle.eco_common.specs.declared.limits.TheConstants.{MAX_TOP_PINS}
use Rattle.eco_net.specs.Listing.{Listing, netlist, net_name}
use Rattle.eco_net.specs.Changes.{with_top}
use Rattle.eco_net.proofs.Added.{top_added}
use Rattle.eco_net.proofs.Effects.{top_is_added}
use Rattle.eco_net.proofs.maker.NetlistMaker.add_top.Goals as goal

pub invariant_of-self-2 : goal.invariant_of-self-2
invariant_of-self-2 c =
    let L : Listing = record { nets = c.self.inside.nets.items; comps = c.self.inside.comps.items; tops = c.self.inside.tops.items; reserved = c.self.inside.reserved.items } in
    let new : get (netlist L).tops c.args.name.now ≡ None = subst (λ (M : Listing). get (netlist M).tops c.args.name.now ≡ None) (sym c.self.view_is) c.requires.new_name in
    let few : length L.tops < MAX_TOP_PINS = subst (λ (M : Listing). length M.tops < MAX_TOP_PINS) (sym c.self.view_is) c.requires.few in
    let known : c.args.net.0 < length L.nets = subst (λ (M : Listing). c.args.net.0 < length M.nets) (sym c.self.view_is) c.requires.known_net in
    rw (c.in_ok-push.ensures.items, c.in_ok-of.ensures)
    (top_added L _ _ _ c.self.invariant (record { name = c.args.name.now; dir = c.args.dir; net = c.args.net.0 }) new few known)

pub returns-clause-named : goal.returns-clause-named
returns-clause-named c =
    let L : Listing = record { nets = c.self.inside.nets.items; comps = c.self.inside.comps.items; tops = c.self.inside.tops.items; reserved = c.self.inside.reserved.items } in
    let new : get (netlist L).tops c.args.name.now ≡ None = subst (λ (M : Listing). get (netlist M).tops c.args.name.now ≡ None) (sym c.self.view_is) c.requires.new_name in
    let e : netlist (record L { tops = c.push.new.self.items }) ≡ with_top (netlist L) c.args.name.now c.args.dir (net_name L.nets c.args.net.0) =
    rw (c.in_ok-push.ensures.items, c.in_ok-of.ensures) (top_is_added L c.self.invariant.listing c.args.name.now c.args.dir c.args.net.0 new) in
    e ∙ ap (λ (M : Listing). with_top (netlist M) c.args.name.now c.args.dir (net_name M.nets c.args.net.0)) c.self.view_is
