use Rattle.std.proofs.Common.{sym, ◌∙◌}
use Rattle.eco_master_faults.proofs.Models.{none_unknown}
use Rattle.eco_master_faults.proofs.unknown.first_of_unknown_model.Goals as goal

pub returns-then-all_known : goal.returns-then-all_known
returns-then-all_known c =
    none_unknown c.args.used.now c.args.text.now c.args.design.now.comps c.args.library.now c.requires (sym c.all_known.ensures ∙ c.if-all_known.true)
