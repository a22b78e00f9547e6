use Rattle.std.proofs.Common.{List, map, sym, ap, ◌∙◌, subst}
use Rattle.std.proofs.lemmas.Result.{err_from_is_err_and}
use Rattle.eco_def.specs.declared.design.Comp.{Comp}
use Rattle.eco_def.specs.declared.design.TopPin.{TopPin}
use Rattle.eco_def.specs.Named.{NamedComp}
use Rattle.eco_net.specs.Netlist.{Netlist}
use Rattle.eco_net.specs.Listing.{netlist, AreDistinctNames}
use Rattle.eco_net.proofs.Basics.{Has, has_from_contains}
use Rattle.eco_elaborate.specs.Stated.{named_comp, named_comps, named_pin, named_pins}
use Rattle.eco_elaborate.specs.Stages.{supply_value, NetsAre, AddsComps, AddsTops, MacroFault, design_net_names}
use Rattle.std.specs.List.{All}
use Rattle.eco_issued_laws.specs.Bounds.{HasCoordinates}
use Rattle.eco_elaborate.proofs.Centred.{units_read, places_read}
use Rattle.eco_elaborate.proofs.Whole.{no_comps, no_tops, parts_listed, pin_net, names_apart, tops_apart, same_comps}
use Rattle.eco_elaborate.proofs.listing.list_parts.Goals as goal

pub add_comps-requires-clause-none : goal.add_comps-requires-clause-none
add_comps-requires-clause-none g c = no_comps (g.M.Macros.kinds c.args.macros.now) c.args.design.now.units (netlist c.in_ok-maker.maker) (ap (λ (m : Netlist). m.comps) c.in_ok-maker.ensures.others)

pub add_comps-requires-clause-apart : goal.add_comps-requires-clause-apart
add_comps-requires-clause-apart g c = subst (λ (cs : List Comp). AreDistinctNames (map (λ c'. (named_comp c.args.text.now c').name) cs)) (sym c.as_slice-comps.ensures) (names_apart c.args.text.now c.args.design.now c.requires)

pub add_comps-requires-clause-units : goal.add_comps-requires-clause-units
add_comps-requires-clause-units g c = units_read c.args.text.now c.args.design.now c.requires

pub add_comps-requires-clause-places : goal.add_comps-requires-clause-places
add_comps-requires-clause-places g c =
    subst (λ (cs : List Comp). All (λ c'. HasCoordinates c'.place) cs) (sym c.as_slice-comps.ensures) (places_read c.args.text.now c.args.design.now c.requires)

pub returns-in_err-add_comps-clause-err : goal.returns-in_err-add_comps-clause-err
returns-in_err-add_comps-clause-err g c =
    let kinds = g.M.Macros.kinds c.args.macros.now in
    let p = err_from_is_err_and c.from_residual-in_err-add_comps.result c.from_residual-in_err-add_comps.ensures.1 in
    let e = c.in_err-add_comps.field-0.0 in
    rw (p.1, p.2)
    (subst (λ (cs : List NamedComp). MacroFault kinds cs e) (same_comps c.args.text.now c.args.design.now c.requires)
    (subst (λ (cs : List Comp). MacroFault kinds (named_comps c.args.text.now cs) e) c.as_slice-comps.ensures c.in_err-add_comps.ensures.err))

pub add_tops-requires-clause-none : goal.add_tops-requires-clause-none
add_tops-requires-clause-none g c = no_tops (netlist c.add_comps.new.maker) (ap (λ (m : Netlist). m.tops) c.in_ok-add_comps.ensures.ok.others ∙ ap (λ (m : Netlist). m.tops) c.in_ok-maker.ensures.others)

pub add_tops-requires-clause-apart : goal.add_tops-requires-clause-apart
add_tops-requires-clause-apart g c = subst (λ (ps : List TopPin). AreDistinctNames (map (λ p. (named_pin c.args.text.now p).name) ps)) (sym c.as_slice.ensures) (tops_apart c.args.text.now c.args.design.now c.requires)

pub add_tops-requires-clause-nets : goal.add_tops-requires-clause-nets
add_tops-requires-clause-nets g c p h =
    let value = supply_value c.args.supplies.now in
    let text = c.args.text.now in
    let d = c.args.design.now in
    let are : NetsAre value (design_net_names text d) (netlist c.add_comps.new.maker) = subst (NetsAre value (design_net_names text d)) (sym c.in_ok-add_comps.ensures.ok.others) c.in_ok-maker.ensures.nets in
    pin_net text d value (netlist c.add_comps.new.maker) are p (subst (λ (ps : List TopPin). Has (named_pins text ps) p) c.as_slice.ensures (has_from_contains (named_pins text c.as_slice.result.now) p h))

pub returns-clause-ok : goal.returns-clause-ok
returns-clause-ok g c =
    let kinds = g.M.Macros.kinds c.args.macros.now in
    parts_listed kinds (supply_value c.args.supplies.now) c.args.text.now c.args.design.now c.in_ok-maker.maker c.add_comps.new.maker c.add_tops.new.maker c.in_ok-maker.ensures
    (subst (λ (cs : List Comp). AddsComps kinds c.args.design.now.units (named_comps c.args.text.now cs) c.in_ok-maker.maker c.add_comps.new.maker) c.as_slice-comps.ensures c.in_ok-add_comps.ensures.ok)
    (subst (λ (ps : List TopPin). AddsTops (named_pins c.args.text.now ps) c.add_comps.new.maker c.add_tops.new.maker) c.as_slice.ensures c.in_ok-add_tops.ensures)
