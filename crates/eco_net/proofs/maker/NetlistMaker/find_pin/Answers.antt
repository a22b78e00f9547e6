use Rattle.std.proofs.Common.{subst, sym}
use Rattle.eco_net.specs.Listing.{FindsPin}
use Rattle.eco_net.proofs.ByNames.{pin_found_named}
use Rattle.eco_net.proofs.maker.NetlistMaker.find_pin.Goals as goal

pub returns-clause-named : goal.returns-clause-named
returns-clause-named c =
    pin_found_named c.args.self.now c.facts.ensures.listing c.args.comp c.args.name.now c.find_pin.result
    (subst (λ o. FindsPin o c.args.name.now c.find_pin.result) (sym c.comp.ensures.at) c.find_pin.ensures)
