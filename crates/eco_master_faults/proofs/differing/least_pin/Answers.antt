use Rattle.std.proofs.Common.{List, None, sym, ◌∙◌, subst, option_copied, take_all}
use Rattle.eco_lef.specs.declared.master.MasterPin.{MasterPin}
use Rattle.eco_net.specs.Netlist.{Name}
use Rattle.eco_master_faults.specs.Odd.{odd_pins, Lessens}
use Rattle.eco_master_faults.proofs.Leasts.{lessens_more}
use Rattle.eco_master_faults.proofs.OddPins.{odd_pins_more}
use Rattle.eco_master_faults.proofs.differing.least_pin.Goals as goal

pub loop-pin-preserved : goal.loop-pin-preserved
loop-pin-preserved c =
    subst (λ (ns : List Name). Lessens None ns (option_copied c.less_of_pin-least.result))
    (sym (odd_pins_more c.args.function.now c.as_slice-pins.result.now c.loop-pin.pin-index c.pin-item.result c.loop-pin-test.true c.pin-item.is))
    (lessens_more _ _ None (option_copied c.loop-pin.least) _ c.loop-pin.invariant c.less_of_pin-least.ensures)

pub returns : goal.returns
returns c =
    subst (λ (ps : List MasterPin). Lessens None (odd_pins c.args.function.now ps) (option_copied c.loop-pin.least))
    (take_all c.loop-pin.pin-index c.as_slice-pins.result.now c.loop-pin-test.false ∙ c.as_slice-pins.ensures) c.loop-pin.invariant
