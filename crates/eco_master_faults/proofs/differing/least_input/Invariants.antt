use Rattle.std.proofs.Common.{take, option_copied}
use Rattle.eco_common.specs.declared.geometry.Dir.TheVariants.{Input}
use Rattle.eco_master_faults.specs.Odd.{odd_names, Lessens}
use Rattle.eco_master_faults.proofs.differing.least_input.Given as goal

-- the least with the inputs so far
abbrev pub invariant-loop-input : goal.invariant-loop-input
invariant-loop-input l = Lessens (option_copied l.initial.least) (odd_names l.master Input (take l.input-index l.inputs)) (option_copied l.least)
