use Rattle.std.proofs.Common.{List, sym, ◌∙◌, subst, option_copied}
use Rattle.eco_net.specs.Netlist.{Name}
use Rattle.eco_master_faults.specs.Odd.{Lessens}
use Rattle.eco_master_faults.proofs.OddPins.{odd_name}
use Rattle.eco_master_faults.proofs.differing.less_of_name.Goals as goal

pub returns-else-has_pin : goal.returns-else-has_pin
returns-else-has_pin c =
    subst (λ (ns : List Name). Lessens (option_copied c.args.least) ns (option_copied c.less.result))
    (sym (odd_name c.args.master.now c.args.dir c.args.name.now (sym c.has_pin.ensures ∙ c.if-has_pin.false))) c.less.ensures
