use Rattle.std.proofs.Common.{[], ◌∷◌, take, sym, subst}
use Rattle.std.specs.List.{filter}
use Rattle.eco_pin_faults.specs.Held.{takes, AddsPlaces}
use Rattle.eco_pin_faults.specs.Places.{joints_among}
use Rattle.eco_pin_faults.proofs.Maps.{more_added}
use Rattle.eco_pin_faults.proofs.Order.{side_more}
use Rattle.eco_pin_faults.proofs.first_nets.add_side.Goals as goal

pub loop-net-preserved : goal.loop-net-preserved
loop-net-preserved c =
    let i = c.loop-net.net-index in
    let text = c.args.text.now in
    let side = c.args.side in
    subst (AddsPlaces c.args.nets.now c.add_statement.new.nets) (sym (side_more text side c.args.statements.now i c.net-item.result c.loop-net-test.true c.net-item.is))
    (more_added (joints_among text (filter (takes side) (take i c.args.statements.now))) (joints_among text (filter (takes side) (c.net-item.result ∷ []))) c.args.nets.now c.loop-net.nets c.add_statement.new.nets c.loop-net.invariant
    c.in_ok-add_statement.ensures)
