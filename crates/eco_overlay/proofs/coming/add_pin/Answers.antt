use Rattle.std.proofs.Common.{ap, ◌∙◌, ◌++◌, [], ◌∷◌, Some}
use Rattle.std.proofs.lemmas.Map.Text.{btree_map_updates_str}
use Rattle.eco_overlay.proofs.NetPins.{pin_put}
use Rattle.eco_overlay.proofs.coming.add_pin.Goals as goal

pub returns : goal.returns
returns c net =
    pin_put c.args.added.now c.take_pins-pins.new.added c.insert.new.self c.args.moved.net.now net c.args.moved c.push.new.self
    (btree_map_updates_str c.args.moved.net.now c.take_pins-pins.new.added c.insert.new.self (Some c.push.new.self) c.in_ok-insert.ensures.updates net)
    (c.in_ok-push.ensures.items ∙ ap (λ ps. ps ++ c.args.moved ∷ []) c.take_pins-pins.ensures.pins) (c.take_pins-pins.ensures.others net)
