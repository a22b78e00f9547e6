use Rattle.std.proofs.Common.{subst}
use Rattle.eco_net.specs.Netlist.{IsWellFormed}
use Rattle.eco_net.specs.Listing.{Listing, netlist}
use Rattle.eco_net.proofs.Whole.{whole}
use Rattle.eco_net.proofs.netlist.Netlist.counts.Goals as goal

pub returns-clause-whole : goal.returns-clause-whole
returns-clause-whole c = subst (λ (L : Listing). IsWellFormed (netlist L)) c.self.view_is (whole _ c.counts.ensures.listing)
