use Rattle.std.proofs.Common.{string_bytes, ap, sym, ◌∙◌}
use Rattle.eco_cli.proofs.Words.{value_behind}
use Rattle.eco_cli.proofs.command_line.+value.Goals as goal

pub returns-else-eq : goal.returns-else-eq
returns-else-eq t c =
    c.value.ensures ∙ value_behind string_bytes c.args.words.now c.args.option.now c.name-item.result c.as_str.result.now c.in-len2-up.len_at_least (c.as_str.ensures.value ∙ ap string_bytes c.name-item.is) (sym c.eq.ensures ∙ c.if-eq.false)
