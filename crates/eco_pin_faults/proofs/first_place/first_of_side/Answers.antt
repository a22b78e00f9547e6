use Rattle.std.proofs.Common.{◌∙◌, sym}
use Rattle.std.specs.List.{filter}
use Rattle.std.specs.Option.{option_map}
use Rattle.eco_pin_faults.specs.Held.{place_by, takes}
use Rattle.eco_pin_faults.specs.Places.{joints_among}
use Rattle.eco_pin_faults.proofs.Lists.{some_map, item_some, item_none, side_append}
use Rattle.eco_pin_faults.proofs.first_place.first_of_side.Goals as goal

pub returns-then-is_some : goal.returns-then-is_some
returns-then-is_some g c =
    item_some (λ ss. joints_among c.args.text.now (filter (takes c.args.side) ss)) (side_append c.args.text.now c.args.side) (g.T.PlaceTest.passes c.args.test.now)
    c.args.nets.now c.loop-net.net-index c.net-item.result c.loop-net-test.true c.net-item.is (option_map place_by c.in_ok-first.first)
    c.loop-net.invariant c.in_ok-first.ensures (some_map place_by c.in_ok-first.first ∙ sym c.is_some.ensures ∙ c.if-is_some.true)

pub loop-net-preserved : goal.loop-net-preserved
loop-net-preserved g c =
    item_none (λ ss. joints_among c.args.text.now (filter (takes c.args.side) ss)) (side_append c.args.text.now c.args.side) (g.T.PlaceTest.passes c.args.test.now)
    c.args.nets.now c.loop-net.net-index c.net-item.result c.loop-net-test.true c.net-item.is (option_map place_by c.in_ok-first.first)
    c.loop-net.invariant c.in_ok-first.ensures (some_map place_by c.in_ok-first.first ∙ sym c.is_some.ensures ∙ c.if-is_some.false)
