use Rattle.std.proofs.Common.{codes, sym, ◌∙◌}
use Rattle.std.specs.Str.{bytes_eq}
use Rattle.eco_cli.specs.CommandLine.{listed_of}
use Rattle.eco_cli.proofs.Words.{list_any-map}
use Rattle.eco_cli.proofs.command_line.has_output.Goals as goal

pub returns : goal.returns
returns c = c.names_option.ensures ∙ sym (list_any-map (λ o. bytes_eq o.word (codes "--out")) listed_of c.args.table.now)
