use Rattle.std.proofs.Common.{ap, ◌∙◌}
use Rattle.eco_lef.specs.Known.{names_of, first_place}
use Rattle.eco_lef.proofs.library.Library.place.Goals as goal

pub returns : goal.returns
returns c =
    c.copied.ensures ∙ c.get.ensures.value ∙ c.self.invariant c.args.name.now
    ∙ ap (λ ms. first_place (names_of ms) c.args.name.now) c.self.view_is
