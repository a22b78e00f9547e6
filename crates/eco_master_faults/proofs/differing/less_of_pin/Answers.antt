use Rattle.std.proofs.Common.{List, sym, ◌∙◌, subst, option_copied}
use Rattle.eco_net.specs.Netlist.{Name}
use Rattle.eco_master_faults.specs.Odd.{Lessens}
use Rattle.eco_master_faults.proofs.Leasts.{lessens_none}
use Rattle.eco_master_faults.proofs.OddPins.{odd_pin, even_pin}
use Rattle.eco_master_faults.proofs.differing.less_of_pin.Goals as goal

pub returns-then-is_unlisted : goal.returns-then-is_unlisted
returns-then-is_unlisted c =
    subst (λ (ns : List Name). Lessens (option_copied c.args.least) ns (option_copied c.less.result))
    (sym (odd_pin c.args.function.now c.args.pin.now (sym c.is_unlisted.ensures ∙ c.if-is_unlisted.true))) c.less.ensures

pub returns-else-is_unlisted : goal.returns-else-is_unlisted
returns-else-is_unlisted c =
    subst (λ (ns : List Name). Lessens (option_copied c.args.least) ns (option_copied c.args.least))
    (sym (even_pin c.args.function.now c.args.pin.now (sym c.is_unlisted.ensures ∙ c.if-is_unlisted.false))) (lessens_none _)
