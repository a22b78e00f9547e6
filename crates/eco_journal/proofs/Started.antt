-- A start from its parts.
use Rattle.std.proofs.Common.{◌≡◌, ◌≢◌, ℕ, List, Result, Ok, Err, IfOk, IfErr, Vec, ◌∙◌}
use Rattle.std.specs.declared.alloc.Global.{Global}
use Rattle.eco_disk.specs.declared.disk.Disk.{Ghosts}
use Rattle.eco_journal.specs.declared.journal.Journal.{Journal}
use Rattle.eco_journal.specs.declared.entry.Entry.{Entry}
use Rattle.eco_journal.specs.declared.faults.JournalFault.{JournalFault}
use Rattle.eco_journal.specs.declared.faults.JournalFault.TheVariants.{Disk, Memory, BadRecord, BaseDiffers}
use Rattle.eco_journal.specs.Start.{StartKeeps, IsDiskOrMemory, IsUnfinishedIn}
use Rattle.eco_journal.specs.declared.standing.Standing.{Standing}
use Rattle.eco_journal.specs.declared.standing.Standing.TheVariants.{AtGate}
use Rattle.eco_journal.specs.Sound.{Settles}
use Rattle.eco_journal.specs.Start.{Starts}
use Rattle.eco_journal.proofs.Starts.{begins_on}

pub started : {D P : Type 0} {g : Ghosts D} → (digest bytes : List ℕ) (payloads : List (List ℕ)) (last : List ℕ) (standing : Standing) (disk mid : D) (found : Vec Entry Global) (r : Result (Journal D g × Vec Entry Global) (D × JournalFault))
    → (standing ≡ AtGate → IsUnfinishedIn digest bytes payloads last) → P → StartKeeps P digest bytes payloads (g.moment disk) (g.moment mid) (g.image disk) (g.image mid) → found.items ≡ payloads → Settles standing digest payloads last mid r
    → IfOk r (λ r. r.1 ≡ found) → (Q : D × JournalFault → Type 0) → IfErr r (λ e. (e.1 ≡ Disk) × Q e) → Starts digest bytes payloads disk r
started digest bytes payloads last standing disk mid found (Ok r) unfinished p begins are settles entries Q fault =
    (begins_on (Unit {0}) digest bytes payloads last standing unfinished p begins settles.0, (λ i. (entries i).items) ∙ are, settles.2, (last, settles.1))
started digest bytes payloads last standing disk mid found (Err e) unfinished p begins are settles entries Q fault =
    (begins_on (e.1 ≢ Disk) digest bytes payloads last standing unfinished p begins settles, is_disk e.1 fault.0)
  where
    is_disk : (f : JournalFault) → f ≡ Disk → IsDiskOrMemory f
    is_disk Disk same = tt
    is_disk Memory same = tt
    is_disk (BadRecord place) same = cc same
    is_disk (BaseDiffers kept given) same = cc same
