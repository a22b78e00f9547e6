use Rattle.std.proofs.Common.{sym, ◌∙◌}
use Rattle.eco_base.proofs.TieNets.{output_named, named_output}
use Rattle.eco_base.proofs.ties.is_tie_pin.Goals as goal

pub returns : goal.returns
returns c =
    let L = c.args.net.now in
    let listing = c.facts.ensures.listing in
    let prefixes = c.args.desk.now.prefixes in (
      λ h. output_named L listing prefixes c.args.comp c.args.pin c.requires c.comp_name.result.now c.comp_name.ensures c.args.value c.kind.result.now c.kind.ensures (sym c.is_spare.ensures ∙ c.if-is_spare.false) (c.is_constant.ensures.0 h),
      λ t. c.is_constant.ensures.1 (named_output L listing prefixes c.args.comp c.args.pin c.requires c.comp_name.result.now c.comp_name.ensures c.args.value c.kind.result.now c.kind.ensures t).1,
    )
