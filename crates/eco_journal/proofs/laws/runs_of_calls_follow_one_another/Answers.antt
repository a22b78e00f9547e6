use Rattle.std.proofs.Common.{IsTrue}
use Rattle.eco_journal.proofs.StandsLaw.{stands_then}
use Rattle.eco_journal.proofs.laws.runs_of_calls_follow_one_another.Goals as goal

pub returns : goal.returns
returns g c disk opens from between to book calls more begun early late first second =
    stands_then (λ bytes calls. IsTrue (opens bytes calls)) (g.D.Disk.image disk) begun from between to book calls more early late first second
