use Rattle.std.proofs.Common.{◌≡◌, replicate}
use Rattle.eco_net.specs.declared.search.Mark.TheVariants.{Unseen}
use Rattle.eco_net.proofs.search.no_marks.Given as goal

abbrev pub invariant-loop : goal.invariant-loop
invariant-loop l = l.marks.items ≡ replicate l.counter Unseen
