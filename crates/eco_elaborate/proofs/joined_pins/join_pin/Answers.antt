use Rattle.std.proofs.Common.{sym}
use Rattle.eco_elaborate.proofs.JoiningPins.{pin_joined, pin_stays, pin_differs}
use Rattle.eco_elaborate.proofs.joined_pins.join_pin.Goals as goal

pub returns-in_ok-join-in-None-clause-ok : goal.returns-in_ok-join-in-None-clause-ok
returns-in_ok-join-in-None-clause-ok c =
    pin_joined c.args.maker.now c.facts.ensures.listing c.args.pin c.requires (sym c.in-None.ensures.named) c.join.new.self c.in_ok-join-in-None.ensures.ok c.in_ok-join-in-None.ensures.named

pub returns-then-net-pin-clause-ok : goal.returns-then-net-pin-clause-ok
returns-then-net-pin-clause-ok c = pin_stays c.args.maker.now c.facts.ensures.listing c.args.pin c.requires c.in-Some.net.0 (sym c.in-Some.ensures.named) c.if-net-pin.true

pub returns-else-net-pin-clause-err : goal.returns-else-net-pin-clause-err
returns-else-net-pin-clause-err c = pin_differs c.args.maker.now c.facts.ensures.listing c.args.pin c.requires c.in-Some.net.0 c.in-Some.ensures.known (sym c.in-Some.ensures.named) (λ e. c.if-net-pin.false e)
