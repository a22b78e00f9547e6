use Rattle.std.proofs.Common.{subst}
use Rattle.eco_base.specs.Bases.{BaseParts}
use Rattle.eco_base.specs.Census.{IsCensusOf}
use Rattle.eco_base.proofs.base.Base.census.Goals as goal

pub returns-clause-census : goal.returns-clause-census
returns-clause-census c = subst (λ (b : BaseParts). IsCensusOf b.texts c.self.inside.stocked.census) c.self.view_is c.self.invariant.counted
