use Rattle.std.proofs.Common.{List, take, get_or, sym, subst}
use Rattle.std.proofs.lemmas.List.{take_more}
use Rattle.std.proofs.lemmas.Result.{err_from_is_err_and}
use Rattle.eco_net.proofs.Basics.{Has, contains_from_has}
use Rattle.eco_elaborate.specs.declared.joined_pin.JoinedPin.{JoinedPin}
use Rattle.eco_elaborate.specs.Stages.{JoinsPins}
use Rattle.eco_elaborate.proofs.Fillers.{no_joined}
use Rattle.eco_elaborate.proofs.FindingPins.{has_at_place, has_of_take}
use Rattle.eco_elaborate.proofs.JoiningPins.{known_stays, no_pins_joined, pins_joined, pins_differ}
use Rattle.eco_elaborate.proofs.joined_pins.join_pins.Goals as goal

pub loop-pin-init : goal.loop-pin-init
loop-pin-init c = no_pins_joined c.args.maker.now

pub join_pin-requires : goal.join_pin-requires
join_pin-requires c =
    let p : JoinedPin = get_or c.args.pins.now c.loop-pin.pin-index no_joined in
    let h : Has c.args.pins.now p = has_at_place c.args.pins.now c.loop-pin.pin-index no_joined c.loop-pin-test.true in
    known_stays c.args.maker.now c.loop-pin.maker p c.loop-pin.invariant.same (c.requires.known p (contains_from_has c.args.pins.now p h))

pub loop-pin-preserved : goal.loop-pin-preserved
loop-pin-preserved c =
    let i = c.loop-pin.pin-index in
    let p : JoinedPin = get_or c.args.pins.now i no_joined in
    subst (λ (ps : List JoinedPin). JoinsPins c.args.maker.now ps c.join_pin.new.maker) (sym (take_more c.args.pins.now i no_joined c.loop-pin-test.true))
    (pins_joined c.args.maker.now c.loop-pin.maker (take i c.args.pins.now) p c.loop-pin.invariant c.join_pin.new.maker c.in_ok-join_pin.ensures.ok)

pub returns-in_err-join_pin-clause-err : goal.returns-in_err-join_pin-clause-err
returns-in_err-join_pin-clause-err c =
    let q = err_from_is_err_and c.from_residual.result c.from_residual.ensures.1 in
    let i = c.loop-pin.pin-index in
    let p : JoinedPin = get_or c.args.pins.now i no_joined in
    let h : Has c.args.pins.now p = has_at_place c.args.pins.now i no_joined c.loop-pin-test.true in
    rw (q.1, q.2)
    (pins_differ c.args.maker.now c.loop-pin.maker (take i c.args.pins.now) p c.loop-pin.invariant c.args.pins.now c.in_err-join_pin.field-0.0 (λ r g. has_of_take c.args.pins.now i r g) h
    (c.requires.off p (contains_from_has c.args.pins.now p h)) c.in_err-join_pin.ensures.err)
