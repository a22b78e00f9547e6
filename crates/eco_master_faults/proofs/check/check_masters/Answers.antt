use Rattle.std.proofs.Common.{List, Some, None, sym, ap, subst, ◌∙◌}
use Rattle.eco_def.specs.declared.design.Comp.{Comp}
use Rattle.eco_common.specs.KnownNames.{knows}
use Rattle.eco_net.specs.Netlist.{Name}
use Rattle.eco_elaborate.specs.Stated.{named_comp, named_comps}
use Rattle.eco_master_faults.specs.Differing.{uses, IsFirstDiffering}
use Rattle.eco_master_faults.proofs.ByNames.{first_by_names, first_by_uses}
use Rattle.eco_master_faults.proofs.check.check_masters.Goals as goal

pub returns-in-Some : goal.returns-in-Some
returns-in-Some c =
    let comp = c.in-Some.comp.now in (
      named_comp c.args.text.now comp,
      first_by_names c.args.text.now c.args.design.now.comps c.args.library.now (Some comp) c.in-Some.ensures,
      sym (c.in_ok-comp.ensures ∙ c.bytes_at.ensures),
    )

pub returns-in-None : goal.returns-in-None
returns-in-None c =
    let comps = named_comps c.args.text.now c.args.design.now.comps in (
      first_by_names c.args.text.now c.args.design.now.comps c.args.library.now None c.in_default.ensures,
      first_by_uses (knows c.in_ok-used.used) (uses comps) c.args.functions.now c.args.library.now None
          (λ q. c.in_ok-used.ensures q ∙ ap (λ (cs : List Comp). uses (named_comps c.args.text.now cs) q) c.as_slice.ensures) c.in-None.ensures,
    )

pub returns : goal.returns
returns c =
    let comps = named_comps c.args.text.now c.args.design.now.comps in
    let m = c.in-Some-first_differing.master.now in
    let pin = c.in-Some-first_differing.pin.now in
    let first : IsFirstDiffering (uses comps) c.args.functions.now c.args.library.now m pin =
    first_by_uses (knows c.in_ok-used.used) (uses comps) c.args.functions.now c.args.library.now (Some (m, pin))
    (λ q. c.in_ok-used.ensures q ∙ ap (λ (cs : List Comp). uses (named_comps c.args.text.now cs) q) c.as_slice.ensures) c.in-Some-first_differing.ensures in (
      first_by_names c.args.text.now c.args.design.now.comps c.args.library.now None c.in_default.ensures,
      m,
      subst (λ (n : Name). IsFirstDiffering (uses comps) c.args.functions.now c.args.library.now m n) (sym c.in_ok-copy-in-Some-first_differing-2.ensures) first,
      sym c.in_ok-copy-in-Some-first_differing.ensures,
    )
