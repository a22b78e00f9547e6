use Rattle.std.proofs.Common.{map, string_bytes}
use Rattle.eco_cli.proofs.Words.{asked_reads}
use Rattle.eco_cli.proofs.running.work.Goals as goal

pub carry_out-requires : goal.carry_out-requires
carry_out-requires g c = asked_reads (map string_bytes c.args.words.now) c.in-Ok.asked.command (map string_bytes c.in-Ok.asked.values.now) c.in-Ok.ensures
