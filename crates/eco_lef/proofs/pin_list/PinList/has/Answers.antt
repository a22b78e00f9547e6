use Rattle.std.proofs.Common.{is_some, ap, ◌∙◌}
use Rattle.eco_common.specs.NameBytes.{is_among}
use Rattle.eco_lef.specs.Known.{pin_names}
use Rattle.eco_lef.proofs.Naming.{known_among}
use Rattle.eco_lef.proofs.pin_list.PinList.has.Goals as goal

pub returns : goal.returns
returns c =
    c.has_name.ensures ∙ ap is_some (c.self.invariant c.args.name.now) ∙ known_among (pin_names c.self.inside.pins) c.args.name.now
    ∙ ap (λ ps. is_among (pin_names ps) c.args.name.now) c.self.view_is
