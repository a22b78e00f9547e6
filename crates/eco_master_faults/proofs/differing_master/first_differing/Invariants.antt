use Rattle.std.proofs.Common.{take}
use Rattle.eco_common.specs.KnownNames.{knows}
use Rattle.eco_master_faults.specs.Differing.{NoneDiffers}
use Rattle.eco_master_faults.proofs.differing_master.first_differing.Given as goal

-- none of the masters so far differs
abbrev pub invariant-loop-master : goal.invariant-loop-master
invariant-loop-master l = NoneDiffers (knows l.used) l.functions (take l.master-index l.masters)
