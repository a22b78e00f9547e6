use Rattle.std.proofs.lemmas.Result.{err_from_is_err_and}
use Rattle.eco_base.specs.Joined.{BlamesSupply}
use Rattle.eco_base.specs.Opened.{IsFirstOf}
use Rattle.eco_base.proofs.Fitting.{pins_first, nets_first, patterns_first, supplies_first, on_ok_more, if_err_more}
use Rattle.eco_base.proofs.joining.check_joints.Goals as goal

pub returns-in_err-check_pins-clause-fault : goal.returns-in_err-check_pins-clause-fault
returns-in_err-check_pins-clause-fault c =
    let p = err_from_is_err_and c.from_residual.result c.from_residual.ensures.1 in
    rw (p.1, p.2) (pins_first c.args.texts.now c.requires.fit c.in_err-check_pins.field-0.0 c.in_err-check_pins.ensures.fault)

pub returns-in_err-check_nets-clause-fault : goal.returns-in_err-check_nets-clause-fault
returns-in_err-check_nets-clause-fault c =
    let p = err_from_is_err_and c.from_residual-in_err-check_nets.result c.from_residual-in_err-check_nets.ensures.1 in
    rw (p.1, p.2) (nets_first c.args.texts.now c.requires.fit c.in_ok-check_pins.ensures.none c.in_err-check_nets.field-0.0 c.in_err-check_nets.ensures.fault)

pub returns-in_err-check_patterns-clause-fault : goal.returns-in_err-check_patterns-clause-fault
returns-in_err-check_patterns-clause-fault c =
    let p = err_from_is_err_and c.from_residual-in_err-check_patterns.result c.from_residual-in_err-check_patterns.ensures.1 in
    rw (p.1, p.2) (patterns_first c.args.texts.now c.requires.fit c.in_ok-check_pins.ensures.none c.in_ok-check_nets.ensures.none c.in_err-check_patterns.field-0.0 c.in_err-check_patterns.ensures.fault)

pub returns-clause-none : goal.returns-clause-none
returns-clause-none c = on_ok_more c.check_supplies.result (λ supplies. (c.in_ok-check_pins.ensures.none, c.in_ok-check_nets.ensures.none, supplies)) c.check_supplies.ensures.none

pub returns-clause-fault : goal.returns-clause-fault
returns-clause-fault c =
    if_err_more (BlamesSupply c.args.texts.now) (IsFirstOf c.args.texts.now) c.check_supplies.result
    (supplies_first c.args.texts.now c.requires.fit c.in_ok-check_pins.ensures.none c.in_ok-check_nets.ensures.none c.in_ok-check_patterns.ensures.none) c.check_supplies.ensures.fault
