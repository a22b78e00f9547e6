use Rattle.std.proofs.Common.{sym}
use Rattle.eco_pin_faults.proofs.Told.{no_pattern}
use Rattle.eco_pin_faults.proofs.pattern.first_of_statement.Goals as goal

pub returns-else-net-clause-found : goal.returns-else-net-clause-found
returns-else-net-clause-found g c = sym (no_pattern (g.M.Macros.kinds c.args.macros.now) c.args.models.now c.args.text.now c.args.net.now c.if-net.false)
