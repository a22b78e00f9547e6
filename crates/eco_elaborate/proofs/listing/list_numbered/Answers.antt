use Rattle.std.proofs.Common.{◌≡◌, [], List, map, sym, ap, ◌∙◌, subst}
use Rattle.std.specs.List.{Contains, list_all}
use Rattle.std.proofs.lemmas.Result.{err_from_is_err_and}
use Rattle.eco_def.specs.declared.design.Comp.{Comp}
use Rattle.eco_def.specs.declared.design.NetStatement.{NetStatement}
use Rattle.eco_common.specs.Joints.{NewJoint}
use Rattle.eco_net.specs.Netlist.{Name}
use Rattle.eco_net.specs.Listing.{netlist, comp_names}
use Rattle.eco_net.proofs.Basics.{Has, has_from_contains}
use Rattle.eco_elaborate.specs.declared.joined_pin.JoinedPin.{JoinedPin}
use Rattle.eco_elaborate.specs.Stated.{named_comps, named_net, named_nets, supply_among, all_pins_on}
use Rattle.eco_elaborate.specs.Stages.{supply_value, keeps_value, joint_of, joints_of, known_pins, has_supply_pin, FindsPins, PinFault, JoinFault, JoinsPins}
use Rattle.eco_elaborate.proofs.JoiningPins.{same_comp_names}
use Rattle.eco_elaborate.proofs.Whole.{statement_net, off_all, pin_fault, join_fault, supply_fault, whole}
use Rattle.eco_elaborate.proofs.listing.list_numbered.Goals as goal

pub find_pins-requires-clause-numbers : goal.find_pins-requires-clause-numbers
find_pins-requires-clause-numbers g c =
    subst (λ (cs : List Comp). comp_names c.in_ok-maker.maker ≡ map (λ c'. c'.name) (named_comps c.args.text.now cs)) (sym c.as_slice-comps.ensures) c.in_ok-maker.ensures.ok.numbers

pub find_pins-requires-clause-nets : goal.find_pins-requires-clause-nets
find_pins-requires-clause-nets g c s h =
    statement_net c.args.text.now c.args.design.now (supply_value c.in_ok-supplies.supplies) (netlist c.in_ok-maker.maker) c.in_ok-maker.ensures.ok.nets s
    (subst (λ (ss : List NetStatement). Has (named_nets c.args.text.now ss) s) c.as_slice-nets.ensures (has_from_contains (named_nets c.args.text.now c.as_slice-nets.result.now) s h))

pub returns-in_err-pins-clause-lists : goal.returns-in_err-pins-clause-lists
returns-in_err-pins-clause-lists g c =
    let p = err_from_is_err_and c.from_residual-in_err-pins.result c.from_residual-in_err-pins.ensures.1 in
    let text = c.args.text.now in
    let d = c.args.design.now in
    let L = c.in_ok-maker.maker in
    let e = c.in_err-pins.field-0.0 in
    let powers = g.M.Macros.powers c.args.macros.now in
    let values : (n : Name) → supply_value c.in_ok-supplies.supplies n ≡ supply_among (named_nets text d.nets) n =
    λ n. c.in_ok-supplies.ensures n ∙ ap (λ (ss : List NetStatement). supply_among (named_nets text ss) n) c.as_slice-nets.ensures in
    rw (p.1, p.2)
    (pin_fault text d c.requires (g.M.Macros.kinds c.args.macros.now) (g.M.Macros.powers c.args.macros.now) (supply_value c.in_ok-supplies.supplies) values L c.in_ok-maker.ensures.ok e
    (subst (λ (cs : List Comp). PinFault (has_supply_pin powers (named_comps text cs)) (netlist L) (all_pins_on (named_nets text d.nets)) e) c.as_slice-comps.ensures
    (subst (λ (ss : List NetStatement). PinFault (has_supply_pin powers (named_comps text c.as_slice-comps.result.now)) (netlist L) (all_pins_on (named_nets text ss)) e) c.as_slice-nets.ensures c.in_err-pins.ensures.err)))

pub join_pins-requires-clause-known : goal.join_pins-requires-clause-known
join_pins-requires-clause-known g c p h =
    c.in_ok-pins.ensures.ok.known (λ q i. absurd (has_from_contains {A = JoinedPin} [] q i)) p (subst (λ (ps : List JoinedPin). Contains ps p) c.as_slice.ensures.value h)

pub join_pins-requires-clause-off : goal.join_pins-requires-clause-off
join_pins-requires-clause-off g c p h =
    off_all c.args.text.now c.args.design.now c.requires (g.M.Macros.kinds c.args.macros.now) c.args.design.now.units (named_comps c.args.text.now c.args.design.now.comps) (netlist c.in_ok-maker.maker) c.in_ok-maker.ensures.ok.comps
    (joint_of c.in_ok-maker.maker p).comp (joint_of c.in_ok-maker.maker p).pin

pub returns-in_err-join_pins-clause-lists : goal.returns-in_err-join_pins-clause-lists
returns-in_err-join_pins-clause-lists g c =
    let p = err_from_is_err_and c.from_residual-in_err-join_pins.result c.from_residual-in_err-join_pins.ensures.1 in
    let text = c.args.text.now in
    let d = c.args.design.now in
    let L = c.in_ok-maker.maker in
    let e = c.in_err-join_pins.field-0.0 in
    let values : (n : Name) → supply_value c.in_ok-supplies.supplies n ≡ supply_among (named_nets text d.nets) n =
    λ n. c.in_ok-supplies.ensures n ∙ ap (λ (ss : List NetStatement). supply_among (named_nets text ss) n) c.as_slice-nets.ensures in
    let joints : joints_of L c.as_slice.result.now ≡ known_pins (netlist L) (all_pins_on (named_nets text d.nets)) =
    ap (joints_of L) c.as_slice.ensures.value ∙ c.in_ok-pins.ensures.ok.joints ∙ ap (λ (ss : List NetStatement). known_pins (netlist L) (all_pins_on (named_nets text ss))) c.as_slice-nets.ensures in
    rw (p.1, p.2)
    (join_fault text d c.requires (g.M.Macros.kinds c.args.macros.now) (g.M.Macros.powers c.args.macros.now) (supply_value c.in_ok-supplies.supplies) values L c.in_ok-maker.ensures.ok e
    (subst (λ (js : List NewJoint). JoinFault js e) joints c.in_err-join_pins.ensures.err))

pub returns-then-not-supplies_agree-clause-lists : goal.returns-then-not-supplies_agree-clause-lists
returns-then-not-supplies_agree-clause-lists g c =
    let text = c.args.text.now in
    let d = c.args.design.now in
    let value = supply_value c.in_ok-supplies.supplies in
    let values : (n : Name) → value n ≡ supply_among (named_nets text d.nets) n =
    λ n. c.in_ok-supplies.ensures n ∙ ap (λ (ss : List NetStatement). supply_among (named_nets text ss) n) c.as_slice-nets.ensures in
    supply_fault text d c.requires (g.M.Macros.kinds c.args.macros.now) (g.M.Macros.powers c.args.macros.now) value values c.in_ok-maker.maker c.in_ok-maker.ensures.ok
    (ap (list_all (λ (s : NetStatement). keeps_value value (named_net text s))) (sym c.as_slice-nets.ensures) ∙ sym c.supplies_agree.ensures ∙ c.if-not-supplies_agree.true)

pub returns-clause-lists : goal.returns-clause-lists
returns-clause-lists g c =
    let text = c.args.text.now in
    let d = c.args.design.now in
    let L = c.in_ok-maker.maker in
    let powers = g.M.Macros.powers c.args.macros.now in
    let value = supply_value c.in_ok-supplies.supplies in
    let values : (n : Name) → value n ≡ supply_among (named_nets text d.nets) n =
    λ n. c.in_ok-supplies.ensures n ∙ ap (λ (ss : List NetStatement). supply_among (named_nets text ss) n) c.as_slice-nets.ensures in
    whole text d c.requires (g.M.Macros.kinds c.args.macros.now) (g.M.Macros.powers c.args.macros.now) value values L c.in_ok-maker.ensures.ok c.facts.ensures.listing c.in_ok-pins.pins.items
    (subst (λ (cs : List Comp). FindsPins (has_supply_pin powers (named_comps text cs)) L (all_pins_on (named_nets text d.nets)) [] c.in_ok-pins.pins.items) c.as_slice-comps.ensures
    (subst (λ (ss : List NetStatement). FindsPins (has_supply_pin powers (named_comps text c.as_slice-comps.result.now)) L (all_pins_on (named_nets text ss)) [] c.in_ok-pins.pins.items) c.as_slice-nets.ensures c.in_ok-pins.ensures.ok))
    c.join_pins.new.maker (subst (λ (ps : List JoinedPin). JoinsPins L ps c.join_pins.new.maker) c.as_slice.ensures.value c.in_ok-join_pins.ensures.ok)
    (ap (list_all (λ (s : NetStatement). keeps_value value (named_net text s))) (sym c.as_slice-nets.ensures) ∙ sym c.supplies_agree.ensures ∙ c.if-not-supplies_agree.false)

pub returns-clause-numbers : goal.returns-clause-numbers
returns-clause-numbers g c = same_comp_names c.join_pins.new.maker c.in_ok-maker.maker c.in_ok-join_pins.ensures.ok.same ∙ c.in_ok-maker.ensures.ok.numbers
