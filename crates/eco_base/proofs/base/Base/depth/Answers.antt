use Rattle.std.proofs.Common.{subst}
use Rattle.eco_net.specs.Depth.{IsDepth}
use Rattle.eco_net.specs.Bases.{bare}
use Rattle.eco_base.specs.Bases.{BaseParts, frozen}
use Rattle.eco_base.proofs.base.Base.depth.Goals as goal

pub returns-clause-depth : goal.returns-clause-depth
returns-clause-depth c = subst (λ (b : BaseParts). IsDepth (bare (frozen b.texts)) c.self.inside.stocked.depth) c.self.view_is c.self.invariant.deep
