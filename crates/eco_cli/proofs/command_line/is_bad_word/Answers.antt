use Rattle.std.proofs.Common.{◌<◌, ◌-◌, ◌∙◌, sym, ap, map, take, length, string_bytes, [], arith}
use Rattle.std.proofs.lemmas.List.{take-map, get_or-map}
use Rattle.eco_cli.specs.CommandLine.{listed_of}
use Rattle.eco_cli.proofs.Words.{bad_option, bad_value}
use Rattle.eco_cli.proofs.command_line.is_bad_word.Goals as goal

pub returns-then-place-eq0 : goal.returns-then-place-eq0
returns-then-place-eq0 c =
    let words = c.args.words.now in
    let there = get_or-map string_bytes words c.args.place c.index-words-place.result [] c.requires in
    c.is_bad_option.ensures
    ∙ bad_option (map listed_of c.args.table.now) (map string_bytes words) (map string_bytes (take c.args.place words)) c.args.place c.as_str-word.result.now c.if-place-eq0.true
    (c.as_str-word.ensures.value ∙ ap string_bytes c.index-words-place.is ∙ sym there) (sym (take-map string_bytes c.args.place words))

pub returns-else-place-eq0 : goal.returns-else-place-eq0
returns-else-place-eq0 c =
    let words = c.args.words.now in
    let within : c.args.place - 1 < length words = omega (arith, c.requires) in
    let there = get_or-map string_bytes words c.args.place c.index-words-place.result [] c.requires in
    let behind = get_or-map string_bytes words (c.args.place - 1) c.index-words-place-else-place-eq0.result [] within in
    c.is_bad_value.ensures
    ∙ bad_value (map listed_of c.args.table.now) (map string_bytes words) c.args.place c.as_str.result.now c.as_str-word.result.now c.if-place-eq0.false
    (c.as_str-word.ensures.value ∙ ap string_bytes c.index-words-place.is ∙ sym there) (c.as_str.ensures.value ∙ ap string_bytes c.index-words-place-else-place-eq0.is ∙ sym behind)
