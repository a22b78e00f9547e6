use Rattle.eco_journal.specs.Layout.{Stores}
use Rattle.eco_journal.proofs.StandsLaw.{stands_then}
use Rattle.eco_journal.proofs.laws.runs_follow_one_another.Goals as goal

pub returns : goal.returns
returns g c disk digest from between to entries more others begun early late first second =
    stands_then (λ bytes book. Stores digest book bytes) (g.D.Disk.image disk) begun from between to entries more others early late first second
