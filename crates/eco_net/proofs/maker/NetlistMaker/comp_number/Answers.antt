use Rattle.std.proofs.Common.{◌≡◌, None, Some, subst, slice_get}
use Rattle.std.specs.Option.{MatchOption}
use Rattle.std.specs.FinMap.{get}
use Rattle.eco_net.specs.Listing.{Listing, netlist, comp_names, component}
use Rattle.eco_net.proofs.Places.{number_found}
use Rattle.eco_net.proofs.maker.NetlistMaker.comp_number.Goals as goal

pub returns : goal.returns
returns c =
    subst (λ (L : Listing). MatchOption c.find.result (get (netlist L).comps c.args.name.now ≡ None) (λ n. slice_get (comp_names L) n ≡ Some c.args.name.now)) c.self.view_is
    (rw c.find.ensures (number_found (λ r. r.name) (component c.self.inside.nets.items) c.self.inside.comps.items c.self.inside.comp_places c.args.name.now c.self.invariant.comps))
