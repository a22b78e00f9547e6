use Rattle.std.proofs.Common.{◌∙◌, sym}
use Rattle.eco_order.proofs.Looking.{no_dir, pin_there, dir_there}
use Rattle.eco_order.proofs.lookups.dir_of.Goals as goal

pub returns-in_err-pin : goal.returns-in_err-pin
returns-in_err-pin c = c.from_residual-in_err-pin.ensures ∙ sym (no_dir c.args.net.now c.facts.ensures.listing c.in_ok-comp.comp.0 c.args.comp.now c.args.pin.now c.in_ok-comp.ensures c.in_err-pin.ensures.row)

pub pin_dir-requires : goal.pin_dir-requires
pin_dir-requires c = pin_there c.args.net.now c.facts.ensures.listing c.in_ok-comp.comp.0 c.args.comp.now c.args.pin.now c.in_ok-comp.ensures c.in_ok-pin.pin c.in_ok-pin.ensures.row

pub returns : goal.returns
returns c = dir_there c.args.net.now c.facts.ensures.listing c.in_ok-comp.comp.0 c.args.comp.now c.args.pin.now c.in_ok-comp.ensures c.in_ok-pin.pin c.in_ok-pin.ensures.row c.pin_dir.result c.pin_dir.ensures
