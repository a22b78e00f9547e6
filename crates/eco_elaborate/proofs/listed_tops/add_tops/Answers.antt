use Rattle.std.proofs.Common.{[], List, get_or, sym, subst}
use Rattle.std.proofs.lemmas.Option.{slice_get-get_or}
use Rattle.eco_def.specs.declared.design.TopPin.{TopPin}
use Rattle.eco_def.specs.Named.{NamedPin}
use Rattle.eco_net.specs.Netlist.{Netlist, IsNet}
use Rattle.eco_net.specs.Listing.{netlist}
use Rattle.eco_net.proofs.Basics.{contains_from_has, has_map}
use Rattle.eco_elaborate.specs.Stated.{named_pin, named_pins}
use Rattle.eco_elaborate.specs.Stages.{AddsTops}
use Rattle.eco_elaborate.proofs.Adding.{mapped_at}
use Rattle.eco_elaborate.proofs.AddingTops.{no_tops_added, tops_added, top_is_new}
use Rattle.eco_elaborate.proofs.Fillers.{no_pin}
use Rattle.eco_elaborate.proofs.FindingPins.{has_at_place}
use Rattle.eco_elaborate.proofs.listed_tops.add_tops.Goals as goal

pub loop-pin-init : goal.loop-pin-init
loop-pin-init c = no_tops_added c.args.maker.now

pub add_top-requires-clause-new_name : goal.add_top-requires-clause-new_name
add_top-requires-clause-new_name c =
    let i = c.loop-pin.pin-index in
    top_is_new (netlist c.loop-pin.maker) (named_pin c.args.text.now) c.args.pins.now i (get_or c.args.pins.now i no_pin) c.requires.apart (c.loop-pin.invariant.tops [] c.requires.none)
    (slice_get-get_or c.args.pins.now i no_pin c.loop-pin-test.true)

pub add_top-requires-clause-net : goal.add_top-requires-clause-net
add_top-requires-clause-net c =
    let i = c.loop-pin.pin-index in
    let p : TopPin = get_or c.args.pins.now i no_pin in
    let q : NamedPin = named_pin c.args.text.now p in
    let known : IsNet (netlist c.args.maker.now) q.net =
    c.requires.nets q (contains_from_has (named_pins c.args.text.now c.args.pins.now) q (has_map (named_pin c.args.text.now) c.args.pins.now p (has_at_place c.args.pins.now i no_pin c.loop-pin-test.true))) in
    subst (λ (m : Netlist). IsNet m q.net) (sym c.loop-pin.invariant.others) known

pub loop-pin-preserved : goal.loop-pin-preserved
loop-pin-preserved c =
    subst (λ (ps : List NamedPin). AddsTops ps c.args.maker.now c.add_top.new.maker) (sym (mapped_at (named_pin c.args.text.now) c.args.pins.now c.loop-pin.pin-index no_pin c.loop-pin-test.true))
    (tops_added _ _ _ _ _ c.loop-pin.invariant c.in_ok-add_top.ensures)
