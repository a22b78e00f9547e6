use Rattle.std.proofs.Common.{Bool, [], List, arith, sym, subst, ⊎_elim}
use Rattle.std.proofs.lemmas.Result.{err_from_is_err_and}
use Rattle.std.proofs.lemmas.List.{take_all}
use Rattle.eco_def.specs.declared.design.NetStatement.{NetStatement}
use Rattle.eco_net.specs.Netlist.{Name}
use Rattle.eco_net.specs.Listing.{netlist}
use Rattle.eco_net.proofs.Basics.{contains_from_has, has_map}
use Rattle.eco_elaborate.specs.declared.joined_pin.JoinedPin.{JoinedPin}
use Rattle.eco_elaborate.specs.declared.stated_joint.StatedJoint.{StatedJoint}
use Rattle.eco_elaborate.specs.Stated.{named_comps, named_net, named_nets, all_pins_on}
use Rattle.eco_elaborate.specs.Stages.{has_supply_pin, FindsPins, FindsOrWaits}
use Rattle.eco_elaborate.proofs.FindingPins.{fault_among, has_at}
use Rattle.eco_elaborate.proofs.Waiting.{none_waits, statement_waits, settled, waits_among, first_among}
use Rattle.eco_elaborate.proofs.found_pins.find_pins.Given as given
use Rattle.eco_elaborate.proofs.found_pins.find_pins.Goals as goal

abbrev powered : (g : given.Over) (c : goal.After-new-waiting g) → Name → Name → Bool
powered g c = has_supply_pin (g.M.Macros.powers c.args.macros.now) (named_comps c.args.text.now c.args.comps.now)

pub loop-net-init : goal.loop-net-init
loop-net-init g c =
    subst (λ (ps : List JoinedPin). FindsOrWaits (powered g c) c.args.text.now c.args.maker.now [] ps c.new-waiting.result.items) (sym c.new-pins.ensures.items)
    (subst (λ (ws : List StatedJoint). FindsOrWaits (powered g c) c.args.text.now c.args.maker.now [] [] ws) (sym c.new-waiting.ensures.items) (none_waits (powered g c) c.args.text.now c.args.maker.now))

pub add_statement-requires : goal.add_statement-requires
add_statement-requires g c =
    c.requires.nets (named_net c.args.text.now c.net-item.result)
    (contains_from_has (named_nets c.args.text.now c.args.nets.now) _ (has_map (named_net c.args.text.now) c.args.nets.now c.net-item.result (has_at c.args.nets.now c.loop-net.net-index c.net-item.result c.loop-net-test.true c.net-item.is)))

pub settle_many-requires-clause-nets : goal.settle_many-requires-clause-nets
settle_many-requires-clause-nets g c s h = ⊎_elim (c.loop-net.invariant.nets s) (λ l. l) (c.in_ok-number.ensures.nets s h)

pub returns-in_err-settle_many-clause-err : goal.returns-in_err-settle_many-clause-err
returns-in_err-settle_many-clause-err g c =
    let on = has_supply_pin (g.M.Macros.powers c.args.macros.now) (named_comps c.args.text.now c.args.comps.now) in
    let p = err_from_is_err_and c.from_residual-in_err-settle_many.result c.from_residual-in_err-settle_many.ensures.1 in
    let w = statement_waits on c.args.text.now c.args.maker.now c.args.nets.now c.loop-net.net-index c.net-item.result c.loop-net-test.true c.net-item.is c.loop-net.pins.items c.loop-net.waiting.items c.add_statement.new.waiting.items c.loop-net.invariant c.in_ok-number.ensures.joints c.in_ok-number.ensures.nets in
    rw (p.1, p.2)
    (fault_among on (netlist c.args.maker.now) _ (all_pins_on (named_nets c.args.text.now c.args.nets.now)) c.in_err-settle_many.field-0.0
    (λ j h. first_among c.args.text.now c.args.nets.now _ j (waits_among on c.args.text.now c.args.maker.now _ _ _ w j h)) c.in_err-settle_many.ensures.err)

pub loop-net-preserved : goal.loop-net-preserved
loop-net-preserved g c =
    let on = has_supply_pin (g.M.Macros.powers c.args.macros.now) (named_comps c.args.text.now c.args.comps.now) in
    c.in_ok-settle_many.ensures.ok _ (statement_waits on c.args.text.now c.args.maker.now c.args.nets.now c.loop-net.net-index c.net-item.result c.loop-net-test.true c.net-item.is c.loop-net.pins.items c.loop-net.waiting.items c.add_statement.new.waiting.items c.loop-net.invariant c.in_ok-number.ensures.joints c.in_ok-number.ensures.nets)

pub returns-in_err-settle-clause-err : goal.returns-in_err-settle-clause-err
returns-in_err-settle-clause-err g c =
    let on = has_supply_pin (g.M.Macros.powers c.args.macros.now) (named_comps c.args.text.now c.args.comps.now) in
    let p = err_from_is_err_and c.from_residual-in_err-settle.result c.from_residual-in_err-settle.ensures.1 in
    rw (p.1, p.2)
    (fault_among on (netlist c.args.maker.now) _ (all_pins_on (named_nets c.args.text.now c.args.nets.now)) c.in_err-settle.field-0.0
    (λ j h. first_among c.args.text.now c.args.nets.now c.loop-net.net-index j (waits_among on c.args.text.now c.args.maker.now _ _ _ c.loop-net.invariant j h)) c.in_err-settle.ensures.err)

pub returns-clause-ok : goal.returns-clause-ok
returns-clause-ok g c =
    let on = has_supply_pin (g.M.Macros.powers c.args.macros.now) (named_comps c.args.text.now c.args.comps.now) in
    subst (λ (ss : List NetStatement). FindsPins on c.args.maker.now (all_pins_on (named_nets c.args.text.now ss)) [] c.settle.new.pins.items)
    (take_all c.loop-net.net-index c.args.nets.now (omega (arith, c.loop-net-test.false)))
    (settled on c.args.text.now c.args.maker.now _ _ _ _ c.loop-net.invariant c.in_ok-settle.ensures.ok)
