use Rattle.std.proofs.Common.{length}
use Rattle.eco_cli.proofs.command_line.+value.Given as goal

abbrev pub decreases-value : goal.decreases-value
decreases-value l = length l.words.now
