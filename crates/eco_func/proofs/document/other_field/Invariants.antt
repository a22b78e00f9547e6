use Rattle.std.proofs.Common.{◌≡◌, List, ℕ}
use Rattle.toml.specs.View.{members_view, table_view}
use Rattle.eco_func.specs.FunctionsFile.{no_other}
use Rattle.eco_func.proofs.document.other_field.Given as goal

abbrev pub invariant-loop-key : goal.invariant-loop-key
invariant-loop-key l = (master : List ℕ) → no_other master (table_view l.fields) ≡ no_other master (members_view l.key-iterator)
