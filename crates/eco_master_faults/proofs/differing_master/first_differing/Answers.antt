use Rattle.std.proofs.Common.{List, ◌∙◌, subst, take_all}
use Rattle.eco_common.specs.KnownNames.{knows}
use Rattle.eco_lef.specs.declared.master.Master.{Master}
use Rattle.eco_master_faults.specs.Differing.{NoneDiffers, IsFirstDiffering}
use Rattle.eco_master_faults.proofs.Firsts.{none_more, first_is}
use Rattle.eco_master_faults.proofs.differing_master.first_differing.Goals as goal

pub returns-in-Some : goal.returns-in-Some
returns-in-Some c =
    let used = knows c.args.used.now in
    let fs = c.args.functions.now in
    let m = c.master-item.result in
    subst (λ (ms : List Master). IsFirstDiffering used fs ms m c.in-Some.pin.now) c.masters-masters.ensures
    (first_is used fs c.masters-masters.result.now c.loop-master.master-index m c.in-Some.pin.now c.loop-master-test.true c.master-item.is c.loop-master.invariant c.in-Some.ensures)

pub loop-master-preserved : goal.loop-master-preserved
loop-master-preserved c =
    none_more (knows c.args.used.now) c.args.functions.now c.masters-masters.result.now c.loop-master.master-index c.master-item.result c.loop-master-test.true c.master-item.is c.loop-master.invariant c.in_default.ensures

pub returns : goal.returns
returns c =
    subst (λ (ms : List Master). NoneDiffers (knows c.args.used.now) c.args.functions.now ms)
    (take_all c.loop-master.master-index c.masters-masters.result.now c.loop-master-test.false ∙ c.masters-masters.ensures) c.loop-master.invariant
