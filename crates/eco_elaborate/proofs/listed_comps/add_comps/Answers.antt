use Rattle.std.proofs.Common.{[], get_or}
use Rattle.std.proofs.lemmas.Option.{slice_get-get_or}
use Rattle.eco_def.specs.declared.design.Comp.{Comp}
use Rattle.eco_net.specs.Listing.{netlist}
use Rattle.eco_elaborate.specs.Stated.{named_comp}
use Rattle.eco_elaborate.proofs.Adding.{name_is_new}
use Rattle.eco_elaborate.proofs.Fillers.{no_comp}
use Rattle.eco_elaborate.proofs.listed_comps.add_comps.Goals as goal

pub add_comp-requires-clause-new_name : goal.add_comp-requires-clause-new_name
add_comp-requires-clause-new_name g c =
    let i = c.loop-comp.comp-index in
    let comp : Comp = get_or c.args.comps.now i no_comp in
    name_is_new (g.M.Macros.kinds c.args.macros.now) c.args.units (netlist c.loop-comp.maker) (named_comp c.args.text.now) c.args.comps.now i comp c.requires.apart
    (c.loop-comp.invariant.comps [] c.requires.none) (slice_get-get_or c.args.comps.now i no_comp c.loop-comp-test.true)
