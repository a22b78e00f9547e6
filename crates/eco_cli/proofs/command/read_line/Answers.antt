use Rattle.std.proofs.Common.{◌-◌, map, take, drop, length, string_bytes, sym, ap, ◌∙◌}
use Rattle.eco_cli.proofs.Words.{line_is, bad_behind}
use Rattle.eco_cli.proofs.command.read_line.Goals as goal

pub returns-in-Some-first_bad : goal.returns-in-Some-first_bad
returns-in-Some-first_bad c =
    let words = c.args.words.now in
    let w = c.as_str.result.now in
    let is = line_is string_bytes words c.word-item.result w c.in-len1-up.len_at_least (c.as_str.ensures.value ∙ ap string_bytes c.word-item.is) in
    rw is (bad_behind w (map string_bytes (take (length words - 1) (drop 1 words))) c.in-Some.command c.in-Some-first_bad.place (sym c.named.ensures ∙ c.in-Some.is) (rw c.options.ensures at c.in-Some-first_bad.ensures))
