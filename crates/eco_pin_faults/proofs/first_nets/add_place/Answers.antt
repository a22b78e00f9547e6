use Rattle.std.proofs.Common.{◌∙◌, sym, refl}
use Rattle.eco_pin_faults.specs.Held.{place_by}
use Rattle.eco_pin_faults.proofs.Maps.{place_put}
use Rattle.eco_pin_faults.proofs.first_nets.add_place.Goals as goal

pub returns-in_ok-insert : goal.returns-in_ok-insert
returns-in_ok-insert c =
    place_put (place_by c.args.place.now) c.args.nets.now (c.args.place.now.comp, c.args.place.now.pin) c.insert.new.self c.args.place.now.net refl refl refl c.in_ok-insert.ensures.updates
    (sym c.contains_key.ensures ∙ c.if-not-contains_key.true)
