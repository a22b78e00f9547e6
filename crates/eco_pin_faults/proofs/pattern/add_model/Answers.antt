use Rattle.std.proofs.Common.{◌≡◌, ◌∙◌, Bool, true, false, not, sym, refl}
use Rattle.eco_pin_faults.proofs.Told.{seen_model}
use Rattle.eco_pin_faults.proofs.pattern.add_model.Goals as goal

is_known : (b : Bool) → not b ≡ false → b ≡ true
is_known true e = refl
is_known false e = sym e

pub returns-else-is_new-clause-models : goal.returns-else-is_new-clause-models
returns-else-is_new-clause-models c test = seen_model c.args.models.now.items c.args.model.now test (sym (c.requires c.args.model.now) ∙ is_known _ (sym c.in_ok-is_new.ensures.added ∙ c.if-is_new.false))
