use Rattle.std.proofs.Common.{map, take, option_copied}
use Rattle.eco_common.specs.declared.geometry.Dir.TheVariants.{Output}
use Rattle.eco_master_faults.specs.Odd.{odd_names, Lessens}
use Rattle.eco_master_faults.proofs.differing.least_output.Given as goal

-- the least with the outputs so far
abbrev pub invariant-loop-output : goal.invariant-loop-output
invariant-loop-output l = Lessens (option_copied l.initial.least) (odd_names l.master Output (map (λ o. o.pin) (take l.output-index l.outputs))) (option_copied l.least)
