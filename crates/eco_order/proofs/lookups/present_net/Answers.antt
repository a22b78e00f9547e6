use Rattle.std.proofs.Common.{Some, ap, ◌∙◌, sym}
use Rattle.std.specs.Option.{option_copied}
use Rattle.eco_net.specs.Drivers.{net_of}
use Rattle.eco_net.specs.Listing.{netlist}
use Rattle.eco_order.proofs.Looking.{no_net, pin_there, pin_called, net_named_at}
use Rattle.eco_order.proofs.lookups.present_net.Goals as goal

pub returns-in_err-pin : goal.returns-in_err-pin
returns-in_err-pin c = ap option_copied c.from_residual-in_err-pin.ensures ∙ sym (no_net c.args.net.now c.facts.ensures.listing c.in_ok-comp.comp.0 c.args.comp.now c.args.pin.now c.in_ok-comp.ensures c.facts.ensures.whole c.in_err-pin.ensures.row)

pub net_of-requires : goal.net_of-requires
net_of-requires c = pin_there c.args.net.now c.facts.ensures.listing c.in_ok-comp.comp.0 c.args.comp.now c.args.pin.now c.in_ok-comp.ensures c.in_ok-pin.pin c.in_ok-pin.ensures.row

pub returns-in_err-number : goal.returns-in_err-number
returns-in_err-number c =
    ap option_copied c.from_residual-in_err-number.ensures ∙ c.in_err-number.ensures.named
    ∙ ap (net_of (netlist c.args.net.now)) (pin_called c.args.net.now c.facts.ensures.listing c.in_ok-comp.comp.0 c.args.comp.now c.args.pin.now c.in_ok-comp.ensures c.in_ok-pin.pin c.in_ok-pin.ensures.row)

pub returns : goal.returns
returns c =
    ap Some (sym (net_named_at c.args.net.now c.facts.ensures.listing c.in_ok-number.number.0 c.net_name.result.now c.net_name.ensures))
    ∙ c.in_ok-number.ensures.named
    ∙ ap (net_of (netlist c.args.net.now)) (pin_called c.args.net.now c.facts.ensures.listing c.in_ok-comp.comp.0 c.args.comp.now c.args.pin.now c.in_ok-comp.ensures c.in_ok-pin.pin c.in_ok-pin.ensures.row)
