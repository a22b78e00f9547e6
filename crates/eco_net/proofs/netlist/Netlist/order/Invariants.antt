use Rattle.std.proofs.Common.{◌≡◌, ℕ, ◌<◌, []}
use Rattle.eco_net.specs.declared.search.Mark.TheVariants.{Unseen}
use Rattle.eco_net.specs.Search.{IsMark, IsSearch, IsComputedNet}
use Rattle.eco_net.proofs.netlist.Netlist.order.Given as goal

abbrev pub invariant-loop-net : goal.invariant-loop-net
invariant-loop-net l = record {
  is_search : IsSearch l.self l.search.marks.items l.search.path.items l.search.order.items;
  no_path : l.search.path.items ≡ [];
  seen : (n : ℕ) → n < l.net → IsComputedNet l.self n → IsMark l.search.marks.items n Unseen → ⊥;
}
