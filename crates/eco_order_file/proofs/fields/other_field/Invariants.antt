use Rattle.std.proofs.Common.{◌≡◌}
use Rattle.serde_json.specs.View.{members_view}
use Rattle.eco_order_file.specs.Documents.{no_other}
use Rattle.eco_order_file.specs.Given.{is_one_of}
use Rattle.eco_order_file.proofs.fields.other_field.Given as goal

abbrev pub invariant-loop-name : goal.invariant-loop-name
invariant-loop-name l =
    no_other (is_one_of l.fields) (members_view l.object.entries) ≡ no_other (is_one_of l.fields) (members_view l.name-iterator)
