use Rattle.std.proofs.Common.{map, string_bytes, sym, ◌∙◌}
use Rattle.eco_cli.specs.CommandLine.{listed_of}
use Rattle.eco_cli.proofs.Words.{none_bad_then}
use Rattle.eco_cli.proofs.command_line.first_bad.Goals as goal

pub loop-place-preserved : goal.loop-place-preserved
loop-place-preserved c =
    none_bad_then (map listed_of c.args.table.now) (map string_bytes c.args.words.now) c.loop-place.place c.loop-place.invariant (sym c.is_bad_word.ensures ∙ c.if-is_bad_word.false)
