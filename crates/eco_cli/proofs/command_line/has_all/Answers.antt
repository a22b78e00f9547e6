use Rattle.std.proofs.Common.{sym, ◌∙◌, map, string_bytes}
use Rattle.std.proofs.lemmas.List.{length-map}
use Rattle.eco_common.specs.NameBytes.{is_among}
use Rattle.eco_cli.specs.CommandLine.{options_in, listed_of}
use Rattle.eco_cli.proofs.Words.{list_all-map, complete_where_even}
use Rattle.eco_cli.proofs.command_line.has_all.Goals as goal

pub returns-then-words-eq0 : goal.returns-then-words-eq0
returns-then-words-eq0 c =
    let ws = map string_bytes c.args.words.now in
    let all = c.stand_all.ensures ∙ sym (list_all-map (λ o. is_among (options_in ws) o.word) listed_of c.args.table.now) in
    complete_where_even (map listed_of c.args.table.now) ws c.stand_all.result (rw (length-map c.args.words.now string_bytes) c.if-words-eq0.true) all
