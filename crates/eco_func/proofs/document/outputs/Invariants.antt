use Rattle.std.proofs.Common.{◌≡◌}
use Rattle.toml.specs.View.{members_view, table_view}
use Rattle.eco_func.specs.FunctionsFile.{outputs_of}
use Rattle.eco_func.proofs.DocumentLemmas.{behind}
use Rattle.eco_func.proofs.document.outputs.Given as goal

abbrev pub invariant-loop-pin : goal.invariant-loop-pin
invariant-loop-pin l = outputs_of l.master l.inputs (table_view l.pins) ≡ behind l.found.items (outputs_of l.master l.inputs (members_view l.pin-iterator))
