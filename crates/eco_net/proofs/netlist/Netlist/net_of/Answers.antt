use Rattle.std.proofs.Common.{◌≡◌, ◌∙◌, sym, ap, Some, None, Option, subst}
use Rattle.std.specs.Option.{option_map}
use Rattle.eco_net.specs.Netlist.{Name}
use Rattle.eco_net.specs.Drivers.{net_of}
use Rattle.eco_net.specs.Listing.{Listing, netlist, net_name, numbered_pin, IsKnownPin}
use Rattle.eco_net.proofs.PinNames.{net_named}
use Rattle.eco_net.proofs.netlist.Netlist.net_of.Goals as goal

pub returns-in-Some-clause-named : goal.returns-in-Some-clause-named
returns-in-Some-clause-named c =
    let L = c.self.inside.listed in
    let known = subst (λ (L : Listing). IsKnownPin L c.args.pin) (sym c.self.view_is) c.requires in
    subst (λ (L : Listing). Some (net_name L.nets c.in-Some.number) ≡ net_of (netlist L) (numbered_pin L c.args.pin)) c.self.view_is
    (sym (net_named L c.self.invariant.listing c.args.pin known ∙ ap (option_map (net_name L.nets)) (sym c.net_of_pin.ensures ∙ c.in-Some.is)))

pub returns-in-None-clause-named : goal.returns-in-None-clause-named
returns-in-None-clause-named c =
    let L = c.self.inside.listed in
    let known = subst (λ (L : Listing). IsKnownPin L c.args.pin) (sym c.self.view_is) c.requires in
    subst (λ (L : Listing). ◌≡◌ {A = Option Name} None (net_of (netlist L) (numbered_pin L c.args.pin))) c.self.view_is
    (sym (net_named L c.self.invariant.listing c.args.pin known ∙ ap (option_map (net_name L.nets)) (sym c.net_of_pin.ensures ∙ c.in-None.is)))
