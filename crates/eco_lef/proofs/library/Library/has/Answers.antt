use Rattle.std.proofs.Common.{is_some, ap, ◌∙◌}
use Rattle.eco_common.specs.NameBytes.{is_among}
use Rattle.eco_lef.specs.Known.{names_of}
use Rattle.eco_lef.proofs.Naming.{known_among}
use Rattle.eco_lef.proofs.library.Library.has.Goals as goal

pub returns : goal.returns
returns c =
    c.has_name.ensures ∙ ap is_some (c.self.invariant c.args.name.now) ∙ known_among (names_of c.self.inside.masters) c.args.name.now
    ∙ ap (λ ms. is_among (names_of ms) c.args.name.now) c.self.view_is
