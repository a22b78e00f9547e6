use Rattle.eco_disk.proofs.Called.{makes_then, in_order}
use Rattle.eco_journal.proofs.kept.cut_kept.Goals as goal

pub returns-clause-calls : goal.returns-clause-calls
returns-clause-calls g c = in_order c.sync.result (makes_then c.cut.ensures.calls c.sync.ensures.calls)
