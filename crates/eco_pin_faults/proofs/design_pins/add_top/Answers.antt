use Rattle.std.proofs.Common.{◌∙◌, sym}
use Rattle.eco_pin_faults.proofs.Maps.{put_once}
use Rattle.eco_pin_faults.proofs.design_pins.add_top.Goals as goal

pub returns-in_ok-insert : goal.returns-in_ok-insert
returns-in_ok-insert c n = put_once c.args.name.now c.args.tops.now c.insert.new.self c.args.pin c.in_ok-insert.ensures.updates (sym c.contains_key.ensures ∙ c.if-not-contains_key.true) n
