use Rattle.std.proofs.Common.{◌∙◌}
use Rattle.eco_def.specs.View.{design_in}
use Rattle.eco_overlay.proofs.Lean.{first_is}
use Rattle.eco_overlay.proofs.issuing.is_nets_first.Goals as goal

pub returns : goal.returns
returns c text =
    let d = c.args.design.now in
    let whole = design_in text d in
    (rw c.as_slice.ensures at c.is_before_special.ensures) text ∙ first_is whole.special whole.nets
