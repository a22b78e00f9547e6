use Rattle.std.proofs.Common.{map, sym, ◌∙◌, string_bytes}
use Rattle.std.specs.Str.{bytes_eq}
use Rattle.eco_cli.specs.CommandLine.{is_listed, options_in, listed_of}
use Rattle.eco_common.specs.NameBytes.{is_among}
use Rattle.eco_cli.proofs.Words.{list_any-map, is_no_option, is_an_option}
use Rattle.eco_cli.proofs.command_line.is_bad_option.Goals as goal

pub returns-then-not-names_option : goal.returns-then-not-names_option
returns-then-not-names_option c =
    is_no_option (is_listed (map listed_of c.args.table.now) c.args.word.now) c.names_option.result (is_among (options_in (map string_bytes c.args.before.now)) c.args.word.now)
    (list_any-map (λ o. bytes_eq o.word c.args.word.now) listed_of c.args.table.now ∙ sym c.names_option.ensures) c.if-not-names_option.true

pub returns-else-not-names_option : goal.returns-else-not-names_option
returns-else-not-names_option c =
    c.has_option.ensures
    ∙ is_an_option (is_listed (map listed_of c.args.table.now) c.args.word.now) c.names_option.result (is_among (options_in (map string_bytes c.args.before.now)) c.args.word.now)
    (list_any-map (λ o. bytes_eq o.word c.args.word.now) listed_of c.args.table.now ∙ sym c.names_option.ensures) c.if-not-names_option.false
