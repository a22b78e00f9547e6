use Rattle.std.proofs.Common.{◌≡◌, ℕ, Bool, List, [], ◌∷◌, Option, Some, sym, subst}
use Rattle.std.proofs.lemmas.Result.{err_from_is_err_and}
use Rattle.eco_common.specs.Joints.{NewJoint}
use Rattle.eco_net.specs.Netlist.{Name, Netlist}
use Rattle.eco_net.specs.declared.ids.CompId.{CompId}
use Rattle.eco_net.specs.Listing.{Listing, netlist}
use Rattle.eco_elaborate.specs.declared.fault.DesignFault.{DesignFault}
use Rattle.eco_elaborate.specs.declared.joined_pin.JoinedPin.{JoinedPin}
use Rattle.eco_elaborate.specs.Stated.{named_comps}
use Rattle.eco_elaborate.specs.Stages.{joint_of, has_supply_pin, stated_joint, FindsJoint, FindsPins, PinFault}
use Rattle.eco_elaborate.proofs.FindingPins.{joint_unknown, joint_found}
use Rattle.eco_elaborate.proofs.found_pins.add_joint.Goals as goal

pub returns-in_err-comp-clause-err : goal.returns-in_err-comp-clause-err
returns-in_err-comp-clause-err g c =
    let powered : Name → Name → Bool = has_supply_pin (g.M.Macros.powers c.args.lookup.now.macros.now) (named_comps c.args.lookup.now.text.now c.args.lookup.now.comps.now) in
    let N : Netlist = netlist c.args.lookup.now.maker.now in
    let j : NewJoint = stated_joint c.args.lookup.now.text.now c.args.lookup.now.maker.now.nets c.args.joint.now in
    let p = err_from_is_err_and c.from_residual.result c.from_residual.ensures.1 in
    let e = c.in_err-comp.ensures.err in
    rw (p.1, p.2) (subst (λ (f : DesignFault). PinFault powered N (j ∷ []) f) (sym e.0) (joint_unknown powered N j e.1))

pub returns-in_ok-push-clause-ok : goal.returns-in_ok-push-clause-ok
returns-in_ok-push-clause-ok g c =
    let powered : Name → Name → Bool = has_supply_pin (g.M.Macros.powers c.args.lookup.now.macros.now) (named_comps c.args.lookup.now.text.now c.args.lookup.now.comps.now) in
    let L : Listing = c.args.lookup.now.maker.now in
    let j : NewJoint = stated_joint c.args.lookup.now.text.now L.nets c.args.joint.now in
    let p : JoinedPin = record { comp = c.in-Some.comp; pin = c.in-Some.pin; net = c.args.joint.now.net } in
    let found : FindsJoint powered L j.comp j.pin (Some (c.in-Some.comp, c.in-Some.pin)) = subst (λ (o : Option (CompId × ℕ)). FindsJoint powered L j.comp j.pin o) c.in-Some.is c.in_ok-comp.ensures.ok in
    let same : joint_of L p ≡ j = λ i. record { comp = found.1 i; pin = found.2 i; net = j.net } in
    subst (λ (ps : List JoinedPin). FindsPins powered L (j ∷ []) c.args.pins.now.items ps) (sym c.in_ok-push.ensures.items)
    (joint_found powered L c.facts.ensures.listing j c.args.pins.now.items p same (found.0, c.requires.net))
