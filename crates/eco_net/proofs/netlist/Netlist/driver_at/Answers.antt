use Rattle.std.proofs.Common.{◌≡◌, ◌<◌, ◌∙◌, sym, ap, length, subst, arith}
use Rattle.std.specs.Option.{IfSome}
use Rattle.eco_net.specs.Listing.{Listing, net_name, IsKnownPin}
use Rattle.eco_net.specs.Pins.{DriverIs}
use Rattle.eco_net.specs.ByNumber.{driver_at, all_pins}
use Rattle.eco_net.proofs.DriverNames.{driver_is, driver_known}
use Rattle.eco_net.proofs.Noted.{noted_length, sole_noted}
use Rattle.eco_net.proofs.netlist.Netlist.driver_at.Goals as goal

pub index-requires : goal.index-requires
index-requires c =
    let L = c.self.inside.listed in
    let known : c.args.net < length L.nets = subst (λ (L : Listing). c.args.net < length L.nets) (sym c.self.view_is) c.requires in
    omega (arith, known, c.self.inside.driving.ok.0, ap length c.self.invariant.driving_is, noted_length L (all_pins L))

found : (c : goal.After-sole) → c.sole.result ≡ driver_at c.self.inside.listed c.args.net
found c =
    let L = c.self.inside.listed in
    let n = c.args.net in
    let known : n < length L.nets = subst (λ (L : Listing). n < length L.nets) (sym c.self.view_is) c.requires in
    sole_noted L c.self.inside.driving.items c.self.invariant.driving_is n c.index.result.now c.sole.result known (λ qs e. c.sole.ensures qs (c.index.ensures ∙ e))

pub returns-clause-found : goal.returns-clause-found
returns-clause-found c = found c ∙ ap (λ (L : Listing). driver_at L c.args.net) c.self.view_is

pub returns-clause-known : goal.returns-clause-known
returns-clause-known c =
    let n = c.args.net in
    let known : n < length c.self.inside.listed.nets = subst (λ (L : Listing). n < length L.nets) (sym c.self.view_is) c.requires in
    subst (λ (L : Listing). IfSome c.sole.result (IsKnownPin L)) c.self.view_is
    (driver_known c.self.inside.listed c.self.invariant.listing n c.sole.result known (sym (found c)))

pub returns-clause-named : goal.returns-clause-named
returns-clause-named c =
    let n = c.args.net in
    let known : n < length c.self.inside.listed.nets = subst (λ (L : Listing). n < length L.nets) (sym c.self.view_is) c.requires in
    subst (λ (L : Listing). DriverIs L (net_name L.nets n) c.sole.result) c.self.view_is
    (driver_is c.self.inside.listed c.self.invariant.listing n c.sole.result known (sym (found c)))
