use Rattle.std.proofs.Common.{◌≡◌}
use Rattle.toml.specs.View.{members_view, table_view}
use Rattle.eco_func.specs.FunctionsFile.{no_key_among}
use Rattle.eco_func.proofs.document.has_none.Given as goal

abbrev pub invariant-loop-key : goal.invariant-loop-key
invariant-loop-key l = no_key_among l.names (table_view l.fields) ≡ no_key_among l.names (members_view l.key-iterator)
