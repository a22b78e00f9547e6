use Rattle.std.proofs.Common.{◌∙◌, Some, sym, ap}
use Rattle.std.specs.Option.{option_map}
use Rattle.eco_pin_faults.specs.declared.placed_pin.PlacedPin.{PlacedPin}
use Rattle.eco_pin_faults.specs.declared.faults.TwoNets.{TwoNets}
use Rattle.eco_pin_faults.specs.Faults.{two_nets_at}
use Rattle.eco_pin_faults.specs.Held.{place_by, net_by, parts_by}
use Rattle.eco_pin_faults.specs.Places.{places}
use Rattle.eco_pin_faults.proofs.Told.{two_told, has_first_net}
use Rattle.eco_pin_faults.proofs.two_nets.find_two_nets.Goals as goal

pub returns-in-None : goal.returns-in-None
returns-in-None g c =
    ap (option_map (λ (p : PlacedPin). two_nets_at (net_by c.in_ok-nets.nets p.comp.now p.pin.now) (place_by p))) (sym c.in-None.is)
    ∙ two_told (g.M.Macros.kinds c.args.macros.now) c.args.text.now c.args.design.now c.in_ok-nets.nets c.in_ok-pins.pins c.in_ok-differing.differing c.in_ok-nets.ensures c.in_ok-pins.ensures c.in_ok-differing.ensures

pub told-requires : goal.told-requires
told-requires g c =
    has_first_net (g.M.Macros.kinds c.args.macros.now) c.in_ok-nets.nets (parts_by c.in_ok-pins.pins) (places c.args.text.now c.args.design.now) (place_by c.in-Some.place)
    (ap (option_map place_by) (sym c.in-Some.is) ∙ c.in_ok-differing.ensures)

pub returns : goal.returns
returns g c =
    ap (λ (t : TwoNets). Some t) c.in_ok-two-in-Some.ensures
    ∙ ap (option_map (λ (p : PlacedPin). two_nets_at (net_by c.in_ok-nets.nets p.comp.now p.pin.now) (place_by p))) (sym c.in-Some.is)
    ∙ two_told (g.M.Macros.kinds c.args.macros.now) c.args.text.now c.args.design.now c.in_ok-nets.nets c.in_ok-pins.pins c.in_ok-differing.differing c.in_ok-nets.ensures c.in_ok-pins.ensures c.in_ok-differing.ensures
