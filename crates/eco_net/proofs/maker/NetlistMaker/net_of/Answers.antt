use Rattle.std.proofs.Common.{◌∙◌, sym, ap}
use Rattle.std.specs.Option.{option_map}
use Rattle.eco_net.specs.Listing.{net_name}
use Rattle.eco_net.proofs.PinNames.{net_named, known_net}
use Rattle.eco_net.proofs.maker.NetlistMaker.net_of.Goals as goal

pub returns-in-Some-clause-named : goal.returns-in-Some-clause-named
returns-in-Some-clause-named c =
    let L = c.args.self.now in
    sym (net_named L c.facts.ensures.listing c.args.pin c.requires ∙ ap (option_map (net_name L.nets)) (sym c.net_of_pin.ensures ∙ c.in-Some.is))

pub returns-in-Some-clause-known : goal.returns-in-Some-clause-known
returns-in-Some-clause-known c = known_net c.args.self.now c.facts.ensures.listing c.args.pin c.in-Some.number c.requires (sym c.net_of_pin.ensures ∙ c.in-Some.is)

pub returns-in-None-clause-named : goal.returns-in-None-clause-named
returns-in-None-clause-named c =
    let L = c.args.self.now in
    sym (net_named L c.facts.ensures.listing c.args.pin c.requires ∙ ap (option_map (net_name L.nets)) (sym c.net_of_pin.ensures ∙ c.in-None.is))
