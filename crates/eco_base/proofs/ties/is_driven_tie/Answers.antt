use Rattle.std.proofs.Common.{true≢false, sym, subst}
use Rattle.eco_net.specs.Listing.{net_name}
use Rattle.eco_net.specs.Pins.{DriverIs}
use Rattle.eco_base.proofs.TieNets.{driven_by, undriven}
use Rattle.eco_base.proofs.ties.is_driven_tie.Goals as goal

pub returns-in-Some : goal.returns-in-Some
returns-in-Some c =
    let L = c.args.net.now in
    let driver = subst (DriverIs L (net_name L.nets c.args.number.0)) c.in-Some.is c.in_ok-pin.ensures in
    let is = driven_by L c.facts.ensures.listing c.args.desk.now.prefixes c.args.number.0 c.in-Some.pin c.args.value c.requires.no_supply driver.1 in
    (λ h. is.1 (c.is_tie_output.ensures.0 h), λ t. c.is_tie_output.ensures.1 (is.0 t))

pub returns-in-None : goal.returns-in-None
returns-in-None c =
    let L = c.args.net.now in
    let none = subst (DriverIs L (net_name L.nets c.args.number.0)) c.in-None.is c.in_ok-pin.ensures in
    (λ h. absurd (true≢false (sym h)), λ t. absurd (undriven L c.facts.ensures.listing c.args.desk.now.prefixes c.args.number.0 c.args.value c.requires.no_supply none t))
