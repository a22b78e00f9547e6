use Rattle.std.proofs.Common.{not, ◌||◌, map, sym, ◌∙◌}
use Rattle.std.specs.Str.{bytes_eq}
use Rattle.eco_cli.specs.CommandLine.{has_form, is_value, suits, listed_of}
use Rattle.eco_cli.proofs.Words.{list_all-map, unfit}
use Rattle.eco_cli.proofs.command_line.is_bad_value.Goals as goal

pub returns-else-not-can_be_value : goal.returns-else-not-can_be_value
returns-else-not-can_be_value c =
    unfit (is_value c.args.word.now) c.suits_option.result (suits (map listed_of c.args.table.now) c.args.option.now c.args.word.now) (sym c.can_be_value.ensures ∙ c.if-not-can_be_value.false)
    (c.suits_option.ensures ∙ sym (list_all-map (λ o. not (bytes_eq o.word c.args.option.now) || has_form o.kind c.args.word.now) listed_of c.args.table.now))
