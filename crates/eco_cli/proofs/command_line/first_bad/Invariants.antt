use Rattle.std.proofs.Common.{map, string_bytes}
use Rattle.eco_cli.specs.CommandLine.{NoneBad, listed_of}
use Rattle.eco_cli.proofs.command_line.first_bad.Given as goal

abbrev pub invariant-loop-place : goal.invariant-loop-place
invariant-loop-place l = NoneBad (map listed_of l.table) (map string_bytes l.words) l.place
