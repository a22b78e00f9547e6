use Rattle.std.proofs.Common.{◌∙◌, sym}
use Rattle.eco_pin_faults.proofs.Maps.{model_once}
use Rattle.eco_pin_faults.proofs.design_pins.add_model.Goals as goal

pub returns-in_ok-insert : goal.returns-in_ok-insert
returns-in_ok-insert c n = model_once c.args.name.now c.args.models.now c.insert.new.self c.args.model c.in_ok-insert.ensures.updates (sym c.contains_key.ensures ∙ c.if-not-contains_key.true) n
