use Rattle.std.proofs.Common.{sym, ◌∙◌}
use Rattle.eco_master_faults.proofs.Leasts.{less_name, kept_name}
use Rattle.eco_master_faults.proofs.differing.lesser.Goals as goal

pub returns-then-is_before : goal.returns-then-is_before
returns-then-is_before c = less_name c.args.least.now c.args.name.now (sym c.is_before.ensures ∙ c.if-is_before.true)

pub returns-else-is_before : goal.returns-else-is_before
returns-else-is_before c = kept_name c.args.least.now c.args.name.now (sym c.is_before.ensures ∙ c.if-is_before.false)
