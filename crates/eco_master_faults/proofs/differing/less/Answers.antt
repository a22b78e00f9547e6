use Rattle.std.proofs.Common.{[], ◌∷◌, Option, Some, Bor, sym, subst, option_copied}
use Rattle.eco_net.specs.Netlist.{Name}
use Rattle.eco_master_faults.specs.Odd.{Lessens}
use Rattle.eco_master_faults.proofs.Leasts.{first_name}
use Rattle.eco_master_faults.proofs.differing.less.Goals as goal

pub returns-in-None : goal.returns-in-None
returns-in-None c =
    subst (λ (o : Option (Bor Name)). Lessens (option_copied o) (c.args.name.now ∷ []) (Some c.args.name.now)) (sym c.in-None.is) (first_name c.args.name.now)

pub returns-in-Some : goal.returns-in-Some
returns-in-Some c =
    subst (λ (o : Option (Bor Name)). Lessens (option_copied o) (c.args.name.now ∷ []) (Some c.lesser.result.now)) (sym c.in-Some.is) c.lesser.ensures
