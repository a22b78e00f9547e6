use Rattle.std.proofs.Common.{◌≡◌, ◌∙◌, map, length, sym, ap, arith, subst}
use Rattle.eco_net.specs.Listing.{Listing, AreDistinctNames, netlist}
use Rattle.eco_net.specs.Kept.{IsIndexOf, IsIndexed}
use Rattle.eco_net.specs.Removal.{unmarked_rows, marked_names, without_comps}
use Rattle.eco_net.proofs.Removed.{left_apart, left_small, comps_left, comps_are_out}
use Rattle.eco_net.proofs.maker.NetlistMaker.without.Goals as goal

pub index_of-requires-clause-few : goal.index_of-requires-clause-few
index_of-requires-clause-few c =
    let L : Listing = record { nets = c.self.inside.nets.items; comps = c.self.inside.comps.items; tops = c.self.inside.tops.items; reserved = c.self.inside.reserved.items } in
    omega (arith, ap length (c.deref.ensures.value ∙ c.in_ok-comps.ensures), left_small L c.self.invariant.listing c.args.marks.now)

pub index_of-requires-clause-apart : goal.index_of-requires-clause-apart
index_of-requires-clause-apart c =
    subst (λ rows. AreDistinctNames (map (λ r. r.name) rows)) (sym (c.deref.ensures.value ∙ c.in_ok-comps.ensures)) (left_apart c.args.marks.now c.self.inside.comps.items c.self.invariant.listing.comps)

pub invariant_of-result : goal.invariant_of-result
invariant_of-result c =
    let L : Listing = record { nets = c.self.inside.nets.items; comps = c.self.inside.comps.items; tops = c.self.inside.tops.items; reserved = c.self.inside.reserved.items } in
    let index : IsIndexOf (map (λ r. r.name) (unmarked_rows c.args.marks.now L.comps)) c.in_ok-comp_places.comp_places =
    subst (λ rows. IsIndexOf (map (λ r. r.name) rows) c.in_ok-comp_places.comp_places) (c.deref.ensures.value ∙ c.in_ok-comps.ensures) c.in_ok-comp_places.ensures in
    subst (λ rows. IsIndexed (record L { comps = rows }) c.self.inside.net_places c.in_ok-comp_places.comp_places c.self.inside.reserved_places) (sym c.in_ok-comps.ensures)
    (comps_left L _ _ _ c.self.invariant c.args.marks.now c.in_ok-comp_places.comp_places index)

pub returns-clause-named : goal.returns-clause-named
returns-clause-named c =
    let L : Listing = record { nets = c.self.inside.nets.items; comps = c.self.inside.comps.items; tops = c.self.inside.tops.items; reserved = c.self.inside.reserved.items } in
    let long : length c.args.marks.now ≡ length L.comps = c.requires ∙ ap (λ (M : Listing). length M.comps) (sym c.self.view_is) in
    ap (λ rows. netlist (record L { comps = rows })) c.in_ok-comps.ensures
    ∙ comps_are_out L c.self.invariant.listing c.args.marks.now long
    ∙ ap (λ (M : Listing). without_comps (netlist M) (marked_names c.args.marks.now M.comps)) c.self.view_is
