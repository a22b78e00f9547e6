use Rattle.std.proofs.Common.{rules, ◌≡◌, ◌∙◌, sym, false}
use Rattle.eco_def.specs.View.{design_in}
use Rattle.eco_issued_laws.specs.Issued.{nets_first}
use Rattle.eco_overlay.proofs.issuing.overlay_of_changes.Goals as goal

pub returns : goal.returns
returns c =
    let d = design_in c.args.text.now c.args.design.now in
    let last : nets_first d.special d.nets ≡ false = sym (c.is_nets_first.ensures c.args.text.now) ∙ c.if-is_nets_first.false in
    rw last (search rules)
