use Rattle.std.proofs.Common.{option_copied, ap, sym, ◌∙◌}
use Rattle.eco_master_faults.proofs.MadeKinds.{found_keeps}
use Rattle.eco_master_faults.proofs.table.MasterTableMacros.size.Goals as goal

pub returns-in-Some-clause-limit : goal.returns-in-Some-clause-limit
returns-in-Some-clause-limit c =
    found_keeps c.args.name.now c.self.inside.library.now c.self.invariant.1 c.in-Some.master.now (sym c.find.ensures ∙ ap option_copied c.in-Some.is)
