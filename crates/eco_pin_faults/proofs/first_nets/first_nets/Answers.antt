use Rattle.eco_pin_faults.proofs.Order.{all_added}
use Rattle.eco_pin_faults.proofs.first_nets.first_nets.Goals as goal

pub returns : goal.returns
returns c comp pin =
    all_added c.args.text.now c.args.design.now c.as_slice-statements.result.now c.as_slice-pins.result.now c.pins_start-start.result c.as_slice-statements.ensures c.as_slice-pins.ensures c.pins_start-start.ensures
    c.new-nets.result c.add_side.new.nets c.add_tops.new.nets c.add_side-2.new.nets c.new-nets.ensures.empty c.in_ok-add_side.ensures c.in_ok-add_tops.ensures c.in_ok-add_side-2.ensures comp pin
