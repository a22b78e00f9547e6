use Rattle.std.proofs.Common.{◌≡◌, ◌∙◌, sym, ap, length, arith}
use Rattle.eco_net.specs.ByNumber.{driver_at, all_pins}
use Rattle.eco_net.proofs.DriverNames.{driver_is}
use Rattle.eco_net.proofs.Noted.{noted_length, sole_noted}
use Rattle.eco_net.proofs.maker.NetlistMaker.driver.Goals as goal

pub index-requires : goal.index-requires
index-requires c =
    let L = c.args.self.now in
    omega (arith, c.requires, c.in_ok-driving.driving.ok.0, ap length c.in_ok-driving.ensures, noted_length L (all_pins L))

pub returns : goal.returns
returns c =
    let L = c.args.self.now in
    let n = c.args.net.0 in
    let is : c.sole.result ≡ driver_at L n = sole_noted L c.in_ok-driving.driving.items c.in_ok-driving.ensures n c.index.result.now c.sole.result c.requires (λ qs e. c.sole.ensures qs (c.index.ensures ∙ e)) in
    driver_is L c.facts.ensures.listing n c.sole.result c.requires (sym is)
