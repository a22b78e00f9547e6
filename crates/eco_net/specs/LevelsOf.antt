-- What levels and a reported loop say.
use Rattle.eco_net.specs.declared.levels.LoopFault.{LoopFault}
use Rattle.eco_net.specs.declared.levels.LoopFault.TheVariants.{Loop, Memory}
use Rattle.eco_net.specs.Netlist.{Netlist}
use Rattle.eco_net.specs.Walks.{IsLoopFree, IsClosedWalk}
use Rattle.eco_net.specs.Depth.{IsDepth}
use Rattle.eco_net.specs.Listing.{Listing, netlist}
use Rattle.eco_net.specs.Search.{IsEvaluationOrder}
use Rattle.eco_net.specs.Levelled.{Levelled}

-- levels of a loop-free netlist: its computed nets, each once and after all computed nets that its driver reads, and the
-- greatest depth of a gate
pub record IsLevels (L : Listing) (l : Levelled) : Type 0 where
  pub ordered : IsEvaluationOrder L l.order
  pub loop_free : IsLoopFree (netlist L)
  pub depth : IsDepth (netlist L) l.depth

-- a loop comes with a closed walk, which shows that the netlist is not loop-free
abbrev pub LoopIs : Netlist → LoopFault → Type 0
LoopIs N (Loop nets) = IsClosedWalk N nets
LoopIs N Memory = Unit {0}
