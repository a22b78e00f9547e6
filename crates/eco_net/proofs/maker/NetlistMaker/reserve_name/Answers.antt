use Rattle.std.proofs.Common.{◌≡◌, ◌∙◌, ap}
use Rattle.eco_net.specs.Listing.{Listing, netlist}
use Rattle.eco_net.specs.Changes.{with_reserved}
use Rattle.eco_net.proofs.Added.{name_reserved}
use Rattle.eco_net.proofs.Effects.{name_is_reserved}
use Rattle.eco_net.proofs.maker.NetlistMaker.reserve_name.Goals as goal

pub invariant_of-self-2 : goal.invariant_of-self-2
invariant_of-self-2 c =
    let L : Listing = record { nets = c.self.inside.nets.items; comps = c.self.inside.comps.items; tops = c.self.inside.tops.items; reserved = c.self.inside.reserved.items } in
    rw (c.push_reserved.ensures.items, c.in_ok-reserve.ensures.items, c.in_ok-insert.ensures.ok, c.in_ok-row.ensures)
    (name_reserved L _ _ _ c.self.invariant c.args.name.now)

pub returns-clause-named : goal.returns-clause-named
returns-clause-named c =
    let L : Listing = record { nets = c.self.inside.nets.items; comps = c.self.inside.comps.items; tops = c.self.inside.tops.items; reserved = c.self.inside.reserved.items } in
    let e : netlist (record L { reserved = c.push_reserved.new.self.items }) ≡ with_reserved (netlist L) c.args.name.now =
    rw (c.push_reserved.ensures.items, c.in_ok-reserve.ensures.items, c.in_ok-row.ensures) (name_is_reserved L c.self.invariant.listing c.args.name.now) in
    e ∙ ap (λ (M : Listing). with_reserved (netlist M) c.args.name.now) c.self.view_is
