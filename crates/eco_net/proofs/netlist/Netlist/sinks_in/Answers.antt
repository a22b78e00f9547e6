use Rattle.std.proofs.Common.{◌≡◌, ◌∙◌, sym, ap, ap₂, subst, length, arith}
use Rattle.std.specs.List.{filter}
use Rattle.std.proofs.lemmas.Result.{IfOk-weaker}
use Rattle.eco_net.specs.Drivers.{IsSink}
use Rattle.eco_net.specs.Listing.{netlist, net_name}
use Rattle.eco_net.specs.ByNumber.{all_pins}
use Rattle.eco_net.specs.PinOrder.{pin_order}
use Rattle.eco_net.specs.Pins.{ArePins}
use Rattle.eco_net.specs.SinksOf.{is_other, sinks_of}
use Rattle.eco_net.proofs.ByNets.{nets_length, net_pins}
use Rattle.eco_net.proofs.SinkNames.{sinks_are}
use Rattle.eco_net.proofs.netlist.Netlist.sinks_in.Goals as goal

pub pins_of-requires : goal.pins_of-requires
pins_of-requires c =
    let L = c.args.self.now in
    omega (arith, c.requires.known, ap length c.requires.lists, nets_length L (all_pins L))

pub returns : goal.returns
returns c =
    let L = c.args.self.now in
    let n = c.args.net.0 in
    IfOk-weaker c.others.result _ _ (λ found e.
    let is : found.items ≡ sinks_of L n =
    e ∙ ap₂ (λ d ps. filter (is_other d) ps) c.driver_at.ensures.found (net_pins L c.args.lists.now c.requires.lists n c.requires.known c.pins_of.result.now c.pins_of.ensures) in
    subst (ArePins L pin_order (IsSink (netlist L) (net_name L.nets n))) (sym is) (sinks_are L c.facts.ensures.listing n c.requires.known)) c.others.ensures
