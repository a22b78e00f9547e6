use Rattle.std.proofs.Common.{length}
use Rattle.eco_cli.proofs.command_line.+has_option.Given as goal

abbrev pub decreases-has_option : goal.decreases-has_option
decreases-has_option l = length l.words.now
