use Rattle.std.proofs.Common.{◌∙◌, sym, ap}
use Rattle.std.specs.Option.{option_map}
use Rattle.eco_pin_faults.specs.declared.placed_pin.PlacedPin.{PlacedPin}
use Rattle.eco_pin_faults.specs.Faults.{unknown_at}
use Rattle.eco_pin_faults.specs.Held.{place_by}
use Rattle.eco_pin_faults.proofs.Told.{unknown_told, unknown_named}
use Rattle.eco_pin_faults.proofs.unknown.find_unknown_pin.Goals as goal

pub returns-in-None : goal.returns-in-None
returns-in-None g c =
    ap (option_map (λ (p : PlacedPin). unknown_at (place_by p))) (sym c.in-None.is)
    ∙ unknown_told (g.M.Macros.kinds c.args.macros.now) (g.M.Macros.powers c.args.macros.now) c.args.text.now c.args.design.now c.in_ok-pins.pins c.in_ok-first.first c.in_ok-pins.ensures c.in_ok-first.ensures

pub returns : goal.returns
returns g c =
    unknown_named c.in-Some.place c.in_ok-net-in-Some.net c.in_ok-net-in-Some.ensures
    ∙ ap (option_map (λ (p : PlacedPin). unknown_at (place_by p))) (sym c.in-Some.is)
    ∙ unknown_told (g.M.Macros.kinds c.args.macros.now) (g.M.Macros.powers c.args.macros.now) c.args.text.now c.args.design.now c.in_ok-pins.pins c.in_ok-first.first c.in_ok-pins.ensures c.in_ok-first.ensures
