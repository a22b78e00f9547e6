use Rattle.std.proofs.Common.{sum_by}
use Rattle.eco_net.specs.declared.search.Mark.TheVariants.{Unseen}
use Rattle.eco_net.specs.Search.{IsMark, IsSearch, Stays, weight}
use Rattle.eco_net.proofs.netlist.Netlist.settle.Given as goal

abbrev pub invariant-loop-net : goal.invariant-loop-net
invariant-loop-net l = record {
  is_search : IsSearch l.self l.search.marks.items l.search.path.items l.search.order.items;
  stays : Stays l.fn.search.marks.items l.search.marks.items;
  seen : IsMark l.search.marks.items l.root Unseen → ⊥;
}

abbrev pub decreases-loop-net : goal.decreases-loop-net
decreases-loop-net l = sum_by weight l.search.marks.items
