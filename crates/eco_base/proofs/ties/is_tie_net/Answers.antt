use Rattle.std.proofs.Common.{Some, ap, ◌∙◌}
use Rattle.std.specs.Cmp.{booleans_Decides}
use Rattle.eco_base.proofs.TieNets.{supplied}
use Rattle.eco_base.proofs.ties.is_tie_net.Goals as goal

pub returns-in-Some : goal.returns-in-Some
returns-in-Some c =
    let is = supplied c.args.net.now c.facts.ensures.listing c.args.desk.now.prefixes c.args.number.0 c.in-Some.supply c.args.value (c.supply.ensures.row ∙ ap Some c.in-Some.is) in
    let same = booleans_Decides c.in-Some.supply c.args.value in
    (λ h. is.1 (same.0 h), λ t. same.1 (is.0 t))
