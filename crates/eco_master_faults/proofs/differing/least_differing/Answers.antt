use Rattle.std.proofs.Common.{None, option_copied}
use Rattle.eco_net.specs.Among.{Has}
use Rattle.eco_master_faults.specs.Differing.{PinDiffers}
use Rattle.eco_master_faults.specs.Odd.{odd}
use Rattle.eco_master_faults.proofs.Leasts.{lessens_more, least_of_all, least_agree}
use Rattle.eco_master_faults.proofs.OddPins.{differs_odd, odd_differs}
use Rattle.eco_master_faults.proofs.differing.least_differing.Goals as goal

pub returns : goal.returns
returns c =
    let m = c.args.master.now in
    let t = c.args.function.now in
    let one = option_copied c.least_pin-least.result in
    let two = option_copied c.least_input-least.result in
    let three = option_copied c.least_output.result in
    least_agree (Has (odd m t)) (PinDiffers m t) (odd_differs m t) (differs_odd m t) three
    (least_of_all (odd m t) three
    (lessens_more _ _ None two three (lessens_more _ _ None one two c.least_pin-least.ensures c.least_input-least.ensures) c.least_output.ensures))
