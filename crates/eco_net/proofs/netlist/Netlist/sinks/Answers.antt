use Rattle.std.proofs.Common.{◌≡◌, ◌∙◌, sym, ap, ap₂, subst}
use Rattle.std.specs.List.{filter}
use Rattle.std.proofs.lemmas.Result.{IfOk-weaker}
use Rattle.eco_net.specs.Drivers.{IsSink}
use Rattle.eco_net.specs.Listing.{Listing, netlist, net_name}
use Rattle.eco_net.specs.ByNumber.{pins_on}
use Rattle.eco_net.specs.PinOrder.{pin_order}
use Rattle.eco_net.specs.Pins.{ArePins}
use Rattle.eco_net.specs.SinksOf.{is_other, sinks_of}
use Rattle.eco_net.proofs.SinkNames.{sinks_are}
use Rattle.eco_net.proofs.netlist.Netlist.sinks.Goals as goal

pub returns : goal.returns
returns c =
    let L = c.args.self.now in
    let n = c.args.net.0 in
    IfOk-weaker c.others.result _ _ (λ found e.
    let is : found.items ≡ sinks_of L n =
    e ∙ ap₂ (λ d ps. filter (is_other d) ps) c.driver_at.ensures.found (c.deref.ensures.value ∙ c.in_ok-pins.ensures ∙ ap (λ (L : Listing). pins_on L n) c.self.view_is) in
    subst (ArePins L pin_order (IsSink (netlist L) (net_name L.nets n))) (sym is) (sinks_are L c.facts.ensures.listing n c.requires)) c.others.ensures
