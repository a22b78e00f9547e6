use Rattle.std.proofs.Common.{◌≡◌, ◌<◌, sym, refl, subst, length, slice_get, Some}
use Rattle.std.proofs.lemmas.Option.{slice_get_read}
use Rattle.eco_net.specs.Listing.{Listing}
use Rattle.eco_net.specs.Kept.{IsRow}
use Rattle.eco_net.proofs.maker.NetlistMaker.comp.Goals as goal

pub returns-clause-row : goal.returns-clause-row
returns-clause-row c =
    let cs = c.self.inside.comps.items in
    let known : c.args.comp < length cs = subst (λ (L : Listing). c.args.comp < length L.comps) (sym c.self.view_is) c.requires in
    let e : slice_get cs c.args.comp ≡ Some c.index.result.now = slice_get_read cs (length cs) c.args.comp c.index.result.now refl known c.index.ensures in
    subst (λ (L : Listing). IsRow (length L.nets) c.index.result.now) c.self.view_is (c.self.invariant.listing.rows c.args.comp c.index.result.now e)
