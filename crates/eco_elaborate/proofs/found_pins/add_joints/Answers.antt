use Rattle.std.proofs.Common.{Bool, List, [], ◌∷◌, get_or, None, arith, sym, subst}
use Rattle.std.proofs.lemmas.Result.{err_from_is_err_and}
use Rattle.eco_common.specs.Joints.{NewJoint}
use Rattle.eco_net.specs.Netlist.{Name}
use Rattle.eco_net.specs.Listing.{netlist, FindsComp}
use Rattle.eco_net.proofs.Basics.{contains_from_has, has_map}
use Rattle.eco_text.specs.Cursor.{word_bytes}
use Rattle.eco_elaborate.specs.Stated.{named_comps}
use Rattle.eco_elaborate.specs.Stages.{has_supply_pin, stated_joint, stated_joints, FindsPins}
use Rattle.eco_elaborate.proofs.Adding.{mapped_at}
use Rattle.eco_elaborate.proofs.Fillers.{no_stated}
use Rattle.eco_elaborate.proofs.FindingPins.{pins_more, fault_among, has_at_place}
use Rattle.eco_elaborate.proofs.Waiting.{zip_long, zip_at, one_of}
use Rattle.eco_elaborate.proofs.found_pins.add_joints.Goals as goal

pub bounds-found-at : goal.bounds-found-at
bounds-found-at g c =
    let long = zip_long (λ j o. FindsComp c.args.lookup.now.maker.now (word_bytes c.args.lookup.now.text.now j.comp) o) c.args.joints.now c.args.found.now c.requires.found in
    omega (arith, long, c.loop-at-test.true)

pub add_joint-requires-clause-comp : goal.add_joint-requires-clause-comp
add_joint-requires-clause-comp g c =
    zip_at (λ j o. FindsComp c.args.lookup.now.maker.now (word_bytes c.args.lookup.now.text.now j.comp) o) c.args.joints.now c.args.found.now c.requires.found c.loop-at.at no_stated None c.loop-at-test.true

pub add_joint-requires-clause-net : goal.add_joint-requires-clause-net
add_joint-requires-clause-net g c =
    c.requires.nets _ (contains_from_has c.args.joints.now _ (has_at_place c.args.joints.now c.loop-at.at no_stated c.loop-at-test.true))

pub returns-in_err-add_joint-clause-err : goal.returns-in_err-add_joint-clause-err
returns-in_err-add_joint-clause-err g c =
    let powered : Name → Name → Bool = has_supply_pin (g.M.Macros.powers c.args.lookup.now.macros.now) (named_comps c.args.lookup.now.text.now c.args.lookup.now.comps.now) in
    let f = stated_joint c.args.lookup.now.text.now c.args.lookup.now.maker.now.nets in
    let js = c.args.joints.now in
    let p = err_from_is_err_and c.from_residual.result c.from_residual.ensures.1 in
    let h = has_map f js _ (has_at_place js c.loop-at.at no_stated c.loop-at-test.true) in
    rw (p.1, p.2)
    (fault_among powered (netlist c.args.lookup.now.maker.now) (f (get_or js c.loop-at.at no_stated) ∷ []) (stated_joints c.args.lookup.now.text.now c.args.lookup.now.maker.now.nets js) c.in_err-add_joint.field-0.0
    (one_of (f (get_or js c.loop-at.at no_stated)) (stated_joints c.args.lookup.now.text.now c.args.lookup.now.maker.now.nets js) h) c.in_err-add_joint.ensures.err)

pub loop-at-preserved : goal.loop-at-preserved
loop-at-preserved g c =
    let powered : Name → Name → Bool = has_supply_pin (g.M.Macros.powers c.args.lookup.now.macros.now) (named_comps c.args.lookup.now.text.now c.args.lookup.now.comps.now) in
    let L = c.args.lookup.now.maker.now in
    subst (λ (js : List NewJoint). FindsPins powered L js c.args.pins.now.items c.add_joint.new.pins.items) (sym (mapped_at (stated_joint c.args.lookup.now.text.now L.nets) c.args.joints.now c.loop-at.at no_stated c.loop-at-test.true))
    (pins_more powered L _ _ _ _ _ c.loop-at.invariant c.in_ok-add_joint.ensures.ok)
