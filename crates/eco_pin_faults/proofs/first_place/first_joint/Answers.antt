use Rattle.std.proofs.Common.{◌≡◌, ◌∙◌, IfOk, List, ap, subst}
use Rattle.std.specs.List.{filter, find}
use Rattle.std.specs.Option.{option_map}
use Rattle.eco_def.specs.declared.design.NetStatement.{NetStatement}
use Rattle.eco_pin_faults.specs.declared.side.Side.TheVariants.{Both}
use Rattle.eco_pin_faults.specs.Held.{place_by, takes}
use Rattle.eco_pin_faults.specs.Places.{PinPlace, joints_among}
use Rattle.eco_pin_faults.proofs.Order.{both_sides}
use Rattle.eco_pin_faults.proofs.first_place.first_joint.Goals as goal

pub returns : goal.returns
returns g c =
    subst (λ (ps : List PinPlace). IfOk c.first_of_side.result (λ o. option_map place_by o ≡ find (g.T.PlaceTest.passes c.args.test.now) ps))
    (ap (λ (ns : List NetStatement). joints_among c.args.text.now (filter (takes Both) ns)) c.as_slice.ensures ∙ both_sides c.args.text.now c.args.design.now.nets)
    c.first_of_side.ensures
