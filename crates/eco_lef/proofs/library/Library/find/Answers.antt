use Rattle.std.proofs.Common.{slice_get, option_and_then, ap, ◌∙◌}
use Rattle.eco_lef.specs.Collected.{find_master}
use Rattle.eco_lef.proofs.Naming.{found}
use Rattle.eco_lef.proofs.library.Library.find.Goals as goal

pub returns-in-Some : goal.returns-in-Some
returns-in-Some c =
    let ms = c.self.inside.masters in
    c.get-in-Some.ensures.value
    ∙ ap (option_and_then (λ i. slice_get ms i)) (c.in-Some.ensures.value ∙ c.self.invariant c.args.name.now)
    ∙ found ms c.args.name.now ∙ ap (find_master c.args.name.now) c.self.view_is

pub returns-in-None : goal.returns-in-None
returns-in-None c =
    let ms = c.self.inside.masters in
    ap (option_and_then (λ i. slice_get ms i)) (c.in-None.ensures.value ∙ c.self.invariant c.args.name.now)
    ∙ found ms c.args.name.now ∙ ap (find_master c.args.name.now) c.self.view_is
