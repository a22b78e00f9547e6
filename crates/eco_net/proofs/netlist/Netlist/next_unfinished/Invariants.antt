use Rattle.std.proofs.Common.{◌≡◌, ℕ, ◌<◌, Some, slice_get}
use Rattle.eco_net.specs.declared.search.Mark.TheVariants.{Done}
use Rattle.eco_net.specs.Search.{IsMark, IsComputedNet}
use Rattle.eco_net.proofs.netlist.Netlist.next_unfinished.Given as goal

abbrev pub invariant-loop-pin : goal.invariant-loop-pin
invariant-loop-pin l = (j a : ℕ) → j < l.pin → slice_get l.row.joined j ≡ Some (Some a) → IsComputedNet l.self a → IsMark l.marks a Done
