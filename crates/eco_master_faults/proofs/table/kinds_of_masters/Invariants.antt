use Rattle.std.proofs.Common.{take}
use Rattle.eco_master_faults.specs.Making.{AreKinds}
use Rattle.eco_master_faults.proofs.table.kinds_of_masters.Given as goal

-- the kinds of the masters so far
abbrev pub invariant-loop-master : goal.invariant-loop-master
invariant-loop-master l = AreKinds l.functions (take l.master-index l.masters) l.kinds.items
