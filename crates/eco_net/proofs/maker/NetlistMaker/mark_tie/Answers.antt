use Rattle.std.proofs.Common.{◌≡◌, Some, slice_get, ◌<◌, ◌∙◌, sym, ap, refl, true, List, length, slice_set, subst}
use Rattle.std.proofs.lemmas.Option.{slice_get_read}
use Rattle.eco_net.specs.declared.rows.NetRow.{NetRow}
use Rattle.eco_net.specs.Listing.{Listing, netlist, net_name, with_tie}
use Rattle.eco_net.specs.Kept.{IsIndexed}
use Rattle.eco_net.specs.Changes.{with_tie_net}
use Rattle.eco_net.proofs.PinNames.{net_name_is}
use Rattle.eco_net.proofs.Added.{tie_marked, tie_set}
use Rattle.eco_net.proofs.Effects.{net_is_tied}
use Rattle.eco_net.proofs.maker.NetlistMaker.mark_tie.Goals as goal

abbrev after : goal.After-self-1 → List NetRow
after c = slice_set c.self.inside.nets.items c.args.net.0 (record { name = c.index_mut-row.result.now.name; supply = c.index_mut-row.result.now.supply; tie = true })

marked : (c : goal.After-self-1) → after c ≡ with_tie c.self.inside.nets.items c.args.net.0
marked c =
    let ns = c.self.inside.nets.items in
    let row = c.index_mut-row.result.now in
    let known : c.args.net.0 < length ns = subst (λ (L : Listing). c.args.net.0 < length L.nets) (sym c.self.view_is) c.requires in
    tie_set ns c.args.net.0 row (slice_get_read ns (length ns) c.args.net.0 row refl known c.index_mut-row.ensures.value)

pub invariant_of-self : goal.invariant_of-self
invariant_of-self c =
    subst (λ ns. IsIndexed (record { nets = ns; comps = c.self.inside.comps.items; tops = c.self.inside.tops.items; reserved = c.self.inside.reserved.items }) c.self.inside.net_places c.self.inside.comp_places c.self.inside.reserved_places) (sym (marked c))
    (tie_marked (record { nets = c.self.inside.nets.items; comps = c.self.inside.comps.items; tops = c.self.inside.tops.items; reserved = c.self.inside.reserved.items }) _ _ _ c.self.invariant c.args.net.0)

pub returns-clause-rows : goal.returns-clause-rows
returns-clause-rows c =
    let to : List NetRow → Listing = λ ns. record { nets = ns; comps = c.self.inside.comps.items; tops = c.self.inside.tops.items; reserved = c.self.inside.reserved.items } in
    ap to (marked c)
    ∙ ap (λ (L : Listing). record L { nets = with_tie L.nets c.args.net.0 }) c.self.view_is

pub returns-clause-named : goal.returns-clause-named
returns-clause-named c =
    let L : Listing = record { nets = c.self.inside.nets.items; comps = c.self.inside.comps.items; tops = c.self.inside.tops.items; reserved = c.self.inside.reserved.items } in
    let row = c.index_mut-row.result.now in
    let known : c.args.net.0 < length L.nets = subst (λ (L : Listing). c.args.net.0 < length L.nets) (sym c.self.view_is) c.requires in
    let is : slice_get L.nets c.args.net.0 ≡ Some row = slice_get_read L.nets (length L.nets) c.args.net.0 row refl known c.index_mut-row.ensures.value in
    ap (λ ns. netlist (record L { nets = ns })) (marked c)
    ∙ net_is_tied L c.self.invariant.listing c.args.net.0 row is
    ∙ ap (with_tie_net (netlist L)) (sym (net_name_is L c.self.invariant.listing c.args.net.0 row is))
    ∙ ap (λ (M : Listing). with_tie_net (netlist M) (net_name M.nets c.args.net.0)) c.self.view_is
