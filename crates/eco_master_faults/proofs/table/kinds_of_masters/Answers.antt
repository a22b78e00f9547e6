use Rattle.eco_elaborate.proofs.FindingPins.{has_at}
use Rattle.eco_master_faults.proofs.MadeKinds.{distinct_of}
use Rattle.eco_master_faults.proofs.table.kinds_of_masters.Goals as goal

pub kind_of_master-requires : goal.kind_of_master-requires
kind_of_master-requires c =
    distinct_of c.args.masters.now c.master-item.result c.requires
    (has_at c.args.masters.now c.loop-master.master-index c.master-item.result c.loop-master-test.true c.master-item.is)
