-- The calls that a journal makes of its disk, reads aside.
use Rattle.std.specs.Prelude.{ℕ, ◌+◌, ◌-◌, Bool, true, false, List, [], ◌∷◌, ◌++◌, length, get_or, if◌then◌else◌, ◌==◌, ◌&&◌, nat_le}
use Rattle.eco_disk.specs.declared.call.Call.{Call}
use Rattle.eco_disk.specs.declared.call.Call.TheVariants.{Write, Cut, Sync}
use Rattle.eco_disk.specs.declared.disk.Disk.{Ghosts}
use Rattle.eco_journal.specs.declared.standing.Standing.{Standing}
use Rattle.eco_journal.specs.declared.standing.Standing.TheVariants.{Settled, Behind, AtGate}
use Rattle.eco_journal.specs.declared.journal.Journal.{Journal}
use Rattle.eco_journal.specs.declared.found.Found.{Found}
use Rattle.eco_journal.specs.Layout.{EntryList, stops, bad, entry_then, magic, behind, is_fresh}
use Rattle.eco_journal.specs.Reading.{listed_in}

-- an append at a closed gate: length, payload and a closed gate after it; sync; the gate is opened; sync
abbrev pub append_calls : ℕ → List ℕ → List Call
append_calls gate payload = Write (gate + 1) (behind payload) ∷ Sync ∷ Write gate (1 ∷ []) ∷ Sync ∷ []

-- a gate is closed
abbrev pub shut_calls : ℕ → List Call
shut_calls gate = Write gate (0 ∷ []) ∷ Sync ∷ []

-- what stands after a gate is cut
abbrev pub crop_calls : ℕ → List Call
crop_calls gate = Cut (gate + 1) ∷ Sync ∷ []

-- What stands at the gate and after it is taken away. It is closed where a write at it was begun, and cut where bytes follow.
abbrev pub settle_calls : Standing → ℕ → Bool → List Call
settle_calls Settled gate follows = []
settle_calls Behind gate follows = crop_calls gate
settle_calls AtGate gate true = shut_calls gate ++ crop_calls gate
settle_calls AtGate gate false = shut_calls gate

-- a mend of this journal; nothing where no fault stands
abbrev pub mend_calls : {D : Type 0} {g : Ghosts D} → Journal D g → List Call
mend_calls journal = settle_calls journal.standing journal.gate true

abbrev pub found_calls : Found → List Call
found_calls found = settle_calls found.standing found.gate found.follows

-- a header is written after the closed gate 0; sync; the gate is opened; sync
abbrev pub header_calls : List ℕ → List Call
header_calls digest = Write 1 (magic ++ digest ++ 0 ∷ []) ∷ Sync ∷ Write 0 (1 ∷ []) ∷ Sync ∷ []

-- gate 0 is closed, where it doesn't stand closed over more than one byte
abbrev pub clear_calls : Bool → List Call
clear_calls true = []
clear_calls false = shut_calls 0

abbrev pub stands_clear : List ℕ → Bool
stands_clear bytes = nat_le 2 (length bytes) && (get_or bytes 0 0 == 0)

-- on bytes without a header
abbrev pub fresh_calls : List ℕ → List ℕ → List Call
fresh_calls digest bytes = if is_fresh bytes then clear_calls (stands_clear bytes) ++ header_calls digest else []

-- the gate that ends the entries, and what follows it
abbrev pub tail_of : EntryList → List ℕ
tail_of (stops tail) = tail
tail_of (bad place) = []
tail_of (entry_then payload others) = tail_of others

-- a gate that isn't closed is closed, and what follows the gate is cut
abbrev pub tidy_calls : ℕ → List ℕ → List Call
tidy_calls place [] = []
tidy_calls place (gate ∷ rest) = (if gate == 0 then [] else shut_calls place) ++ (if nat_le 1 (length rest) then crop_calls place else [])

-- after the last entry of bytes with a header
abbrev pub end_calls : List ℕ → List Call
end_calls bytes = if is_fresh bytes then [] else tidy_calls (length bytes - length (tail_of (listed_in bytes))) (tail_of (listed_in bytes))

-- A start on these bytes: a sync first. On bytes that it refuses it makes no other of these calls.
abbrev pub start_calls : List ℕ → List ℕ → List Call
start_calls digest bytes = Sync ∷ fresh_calls digest bytes ++ end_calls bytes
