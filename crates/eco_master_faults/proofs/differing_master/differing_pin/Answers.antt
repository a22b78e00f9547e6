use Rattle.std.proofs.Common.{option_copied, sym, ap, ◌∙◌}
use Rattle.eco_common.specs.KnownNames.{knows}
use Rattle.eco_func.specs.FunctionsFile.{find_master as find_function}
use Rattle.eco_master_faults.proofs.Firsts.{used_gate}
use Rattle.eco_master_faults.proofs.differing_master.differing_pin.Goals as goal

pub returns : goal.returns
returns c =
    let used = knows c.args.used.now in
    let m = c.args.master.now in
    let fs = c.args.functions.now in
    used_gate used fs m c.in_ok-function.function.now (option_copied c.least_differing.result)
    (ap used (sym c.bytes.ensures) ∙ sym c.is_used.ensures ∙ c.if-not-is_used.false)
    (ap (λ n. find_function n fs) (sym c.bytes-2.ensures) ∙ sym c.in_ok-function.ensures) c.least_differing.ensures
