use Rattle.std.proofs.Common.{None, Some, slice_get, subst}
use Rattle.eco_net.specs.Listing.{FindsPin}
use Rattle.eco_elaborate.proofs.FindingPins.{looked_up, no_comp_pin, none_found, some_found}
use Rattle.eco_elaborate.proofs.found_pins.find_pin.Goals as goal

pub returns-in-None : goal.returns-in-None
returns-in-None c = no_comp_pin c.args.maker.now _ _ (looked_up c.args.maker.now _ _ None c.in-None.is c.requires)

pub returns-in-None-find_pin_of : goal.returns-in-None-find_pin_of
returns-in-None-find_pin_of c =
    none_found c.args.maker.now c.facts.ensures.listing c.in-Some.comp.id.0 _ _ (looked_up c.args.maker.now _ _ (Some c.in-Some.comp) c.in-Some.is c.requires).0
    (subst (λ q. FindsPin (slice_get c.args.maker.now.comps c.in-Some.comp.id.0) q None) c.bytes_at.ensures c.in-None-find_pin_of.ensures)

pub returns-in-Some-find_pin_of : goal.returns-in-Some-find_pin_of
returns-in-Some-find_pin_of c =
    some_found c.args.maker.now c.facts.ensures.listing c.in-Some.comp.id.0 _ _ (looked_up c.args.maker.now _ _ (Some c.in-Some.comp) c.in-Some.is c.requires).0
    c.in-Some-find_pin_of.pin (subst (λ q. FindsPin (slice_get c.args.maker.now.comps c.in-Some.comp.id.0) q (Some c.in-Some-find_pin_of.pin)) c.bytes_at.ensures c.in-Some-find_pin_of.ensures)

pub find_pin_of-requires : goal.find_pin_of-requires
find_pin_of-requires c = (looked_up c.args.maker.now _ _ (Some c.in-Some.comp) c.in-Some.is c.requires).1
