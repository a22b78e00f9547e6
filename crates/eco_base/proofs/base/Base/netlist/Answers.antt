use Rattle.std.proofs.Common.{subst}
use Rattle.eco_base.specs.Bases.{BaseParts}
use Rattle.eco_base.specs.Limits.{KeepsLimits}
use Rattle.eco_base.specs.Order.{IsInOrder}
use Rattle.eco_base.specs.Parts.{parts_of}
use Rattle.eco_base.proofs.Limits.{limits_kept}
use Rattle.eco_base.proofs.base.Base.netlist.Goals as goal

pub returns-clause-limits : goal.returns-clause-limits
returns-clause-limits c =
    subst (λ (b : BaseParts). KeepsLimits b.listing) c.self.view_is
    (limits_kept (parts_of c.self.inside.texts c.self.inside.stocked c.self.inside.sources) c.self.invariant c.facts.ensures.listing)

pub returns-clause-order : goal.returns-clause-order
returns-clause-order c = subst (λ (b : BaseParts). IsInOrder b.texts b.listing) c.self.view_is c.self.invariant.in_order
