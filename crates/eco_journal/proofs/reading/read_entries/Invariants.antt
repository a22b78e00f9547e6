use Rattle.std.proofs.Common.{◌≡◌, ◌-◌, ◌<◌, ◌≤◌, List, ℕ, Some}
use Rattle.eco_journal.specs.Reading.{OnlyReads, IsReadTo}
use Rattle.eco_journal.proofs.reading.read_entries.Given as goal

abbrev pub invariant-entries : goal.invariant-entries
invariant-entries g l = record {
  within : l.at < l.len;
  reads : OnlyReads (g.D.Disk.contents l.initial.disk) (g.D.Disk.contents l.disk) (g.D.Disk.moment l.initial.disk) (g.D.Disk.moment l.disk) (g.D.Disk.image l.initial.disk) (g.D.Disk.image l.disk) (g.D.Disk.calls l.initial.disk) (g.D.Disk.calls l.disk);
  count : g.D.Disk.faults l.initial.disk ≤ g.D.Disk.faults l.disk;
  so_far : (bytes : List ℕ) → g.D.Disk.contents l.initial.disk ≡ Some bytes → IsReadTo bytes l.entries.items l.at;
}

abbrev pub decreases-entries : goal.decreases-entries
decreases-entries g l = l.len - l.at
