-- Steps of looking at a disk, one after another.
use Rattle.std.proofs.Common.{◌≡◌, ℕ, List, [], ◌∷◌, Option, Result}
use Rattle.eco_disk.specs.Disk.{During, Passes, Same}
use Rattle.eco_journal.specs.Reading.{OnlyReads}
use Rattle.eco_disk.specs.declared.call.Call.{Call}
use Rattle.eco_disk.specs.declared.call.Call.TheVariants.{Len}
use Rattle.eco_disk.specs.Calls.{Makes}
use Rattle.eco_disk.proofs.Called.{changes_made}
use Rattle.eco_disk.proofs.Moments.{during_then}
use Rattle.eco_journal.specs.Start.{Finds, StoresAs}
use Rattle.eco_journal.specs.declared.found.Found.{Found}
use Rattle.eco_journal.specs.declared.faults.JournalFault.{JournalFault}

pub finds_on : {digest bytes : List ℕ} {payloads : List (List ℕ)} {o : Option (List ℕ)} {X Y Z : ℕ → List ℕ → Type 0} {a b c : ℕ} {r : Result Found JournalFault}
    → During a b X Y (StoresAs digest bytes payloads) → Finds digest bytes payloads o b c Y Z r → Finds digest bytes payloads o a c X Z r
finds_on first finds = record { any_moment = during_then first finds.any_moment; found = finds.found; no_refusal = finds.no_refusal }

pub reads_len : {o n : Option (List ℕ)} {X Y : ℕ → List ℕ → Type 0} {a b : ℕ} {m k : Option (List Call)} → n ≡ o → Passes a b X Y Same → Makes m k (Len ∷ []) → OnlyReads o n a b X Y m k
reads_len same passes makes = record { contents = same; crash = passes; no_changes = changes_made makes }
