use Rattle.std.proofs.Common.{◌≡◌, ◌<◌, Some, length, slice_get, refl, sym, subst, arith}
use Rattle.std.proofs.lemmas.Option.{slice_get_read}
use Rattle.eco_base.specs.Bases.{BaseParts, IsSpareOf}
use Rattle.eco_base.proofs.StockFaults.{as_many}
use Rattle.eco_base.proofs.base.Base.spare_fn.Goals as goal

pub index-requires : goal.index-requires
index-requires c =
    let within : c.args.spare < length c.self.inside.stocked.spares.items = subst (λ (b : BaseParts). c.args.spare < length b.stock) (sym c.self.view_is) c.requires in
    omega (arith, within, c.self.inside.stocked.functions.ok.0, as_many (IsSpareOf c.self.inside.texts) c.self.inside.stocked.spares.items c.self.inside.stocked.functions.items c.self.invariant.spares)

pub returns-clause-value : goal.returns-clause-value
returns-clause-value c =
    let functions = c.self.inside.stocked.functions.items in
    let within : c.args.spare < length c.self.inside.stocked.spares.items = subst (λ (b : BaseParts). c.args.spare < length b.stock) (sym c.self.view_is) c.requires in
    let many = as_many (IsSpareOf c.self.inside.texts) c.self.inside.stocked.spares.items functions c.self.invariant.spares in
    subst (λ (b : BaseParts). slice_get b.functions c.args.spare ≡ Some c.index.result.now) c.self.view_is
    (slice_get_read functions (length functions) c.args.spare c.index.result.now refl (omega (arith, within, many)) c.index.ensures)
