use Rattle.std.proofs.Common.{◌≡◌}
use Rattle.toml.specs.View.{members_view, table_view}
use Rattle.eco_desk_file.specs.DeskText.{no_other_field}
use Rattle.eco_desk_file.proofs.document.other_field.Given as goal

abbrev pub invariant-loop-key : goal.invariant-loop-key
invariant-loop-key l = no_other_field (table_view l.document) ≡ no_other_field (members_view l.key-iterator)
