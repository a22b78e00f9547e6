use Rattle.std.proofs.Common.{[], map, string_bytes, lit<}
use Rattle.eco_cli.specs.ApplyCommand.{apply_options}
use Rattle.eco_cli.specs.CommandLine.{Listed}
use Rattle.eco_cli.specs.declared.command_option.OptionKind.TheVariants as kind
use Rattle.eco_cli.proofs.Forms.{has_its_form}
use Rattle.eco_cli.proofs.apply_words.apply_words.Goals as goal

none_listed : Listed
none_listed = record { word = []; kind = kind.Text }

pub table-requires : goal.table-requires
table-requires c = rw c.value-2.ensures (has_its_form apply_options (map string_bytes c.args.words.now) 5 none_listed (lit< tt) c.requires)

pub feeds-requires : goal.feeds-requires
feeds-requires c = rw c.value-4.ensures (has_its_form apply_options (map string_bytes c.args.words.now) 7 none_listed (lit< tt) c.requires)
