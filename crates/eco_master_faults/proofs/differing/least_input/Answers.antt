use Rattle.std.proofs.Common.{List, sym, ◌∙◌, subst, option_copied, take_all}
use Rattle.eco_common.specs.declared.geometry.Dir.TheVariants.{Input}
use Rattle.eco_net.specs.Netlist.{Name}
use Rattle.eco_master_faults.specs.Odd.{odd_names, Lessens}
use Rattle.eco_master_faults.proofs.Leasts.{lessens_more}
use Rattle.eco_master_faults.proofs.OddPins.{odd_names_more}
use Rattle.eco_master_faults.proofs.differing.least_input.Goals as goal

pub loop-input-preserved : goal.loop-input-preserved
loop-input-preserved c =
    subst (λ (ns : List Name). Lessens (option_copied c.args.least) ns (option_copied c.less_of_name-least.result))
    (sym (odd_names_more c.args.master.now Input c.inputs-inputs.result.now c.loop-input.input-index c.input-item.result c.loop-input-test.true c.input-item.is))
    (lessens_more _ _ (option_copied c.args.least) (option_copied c.loop-input.least) _ c.loop-input.invariant c.less_of_name-least.ensures)

pub returns : goal.returns
returns c =
    subst (λ (ns : List Name). Lessens (option_copied c.args.least) (odd_names c.args.master.now Input ns) (option_copied c.loop-input.least))
    (take_all c.loop-input.input-index c.inputs-inputs.result.now c.loop-input-test.false ∙ c.inputs-inputs.ensures.value) c.loop-input.invariant
