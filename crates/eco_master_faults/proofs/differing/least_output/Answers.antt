use Rattle.std.proofs.Common.{List, map, sym, ◌∙◌, subst, option_copied, take_all}
use Rattle.eco_common.specs.declared.geometry.Dir.TheVariants.{Output}
use Rattle.eco_func.specs.declared.output.OutputFn.{OutputFn}
use Rattle.eco_net.specs.Netlist.{Name}
use Rattle.eco_master_faults.specs.Odd.{odd_names, Lessens}
use Rattle.eco_master_faults.proofs.Leasts.{lessens_more}
use Rattle.eco_master_faults.proofs.OddPins.{odd_outputs_more}
use Rattle.eco_master_faults.proofs.differing.least_output.Goals as goal

pub loop-output-preserved : goal.loop-output-preserved
loop-output-preserved c =
    subst (λ (ns : List Name). Lessens (option_copied c.args.least) ns (option_copied c.less_of_name-least.result))
    (sym (odd_outputs_more c.args.master.now Output c.outputs-outputs.result.now c.loop-output.output-index c.output-item.result c.loop-output-test.true c.output-item.is))
    (lessens_more _ _ (option_copied c.args.least) (option_copied c.loop-output.least) _ c.loop-output.invariant c.less_of_name-least.ensures)

pub returns : goal.returns
returns c =
    subst (λ (os : List OutputFn). Lessens (option_copied c.args.least) (odd_names c.args.master.now Output (map (λ o. o.pin) os)) (option_copied c.loop-output.least))
    (take_all c.loop-output.output-index c.outputs-outputs.result.now c.loop-output-test.false ∙ c.outputs-outputs.ensures.value) c.loop-output.invariant
