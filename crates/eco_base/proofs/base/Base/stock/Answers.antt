use Rattle.std.proofs.Common.{subst}
use Rattle.std.specs.List.{All}
use Rattle.eco_elaborate.specs.Centres.{IsCentre}
use Rattle.eco_base.specs.declared.stock.Spare.{Spare}
use Rattle.eco_base.specs.Bases.{BaseParts}
use Rattle.eco_base.specs.Parts.{parts_of}
use Rattle.eco_base.proofs.Ranges.{stock_centred}
use Rattle.eco_base.proofs.base.Base.stock.Goals as goal

pub returns-clause-centres : goal.returns-clause-centres
returns-clause-centres c =
    subst (λ (b : BaseParts). All (λ (s : Spare). IsCentre s.centre) b.stock) c.self.view_is
    (stock_centred (parts_of c.self.inside.texts c.self.inside.stocked c.self.inside.sources) c.self.invariant)
