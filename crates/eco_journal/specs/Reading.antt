-- What is read of a journal's bytes when it is opened.
use Rattle.std.specs.Prelude.{◌≡◌, ◌≢◌, ◌+◌, ◌<◌, ℕ, Bool, List, [], ◌∷◌, length, drop, get_or, Option, if◌then◌else◌, ◌==◌}
use Rattle.std.specs.List.{flat_map}
use Rattle.eco_disk.specs.Disk.{Same, Passes}
use Rattle.eco_disk.specs.declared.call.Call.{Call}
use Rattle.eco_disk.specs.Calls.{Makes, changes_of}
use Rattle.eco_journal.specs.declared.standing.Standing.{Standing}
use Rattle.eco_journal.specs.declared.standing.Standing.TheVariants.{Settled, Behind, AtGate}
use Rattle.eco_journal.specs.Layout.{EntryList, stops, entry_then, entry, listed}

-- a call that only reads
pub record OnlyReads (before now : Option (List ℕ)) (began ends : ℕ) (past present : ℕ → List ℕ → Type 0) (called calls : Option (List Call)) : Type 0 where
  pub contents : now ≡ before
  pub crash : Passes began ends past present Same
  pub no_changes : Makes (changes_of called) (changes_of calls) []

abbrev pub Looks : {D : Type 0} → (D → Option (List ℕ)) → (D → ℕ) → (D → ℕ → List ℕ → Type 0) → (D → Option (List Call)) → D → D → Type 0
Looks contents moment image calls old new = OnlyReads (contents old) (contents new) (moment old) (moment new) (image old) (image new) (calls old) (calls new)

abbrev pub entries_then : List (List ℕ) → EntryList → EntryList
entries_then [] end = end
entries_then (payload ∷ payloads) end = entry_then payload (entries_then payloads end)

-- the list of entries after the header
abbrev pub listed_in : List ℕ → EntryList
listed_in bytes = listed 0 41 (drop 41 bytes)

-- so far these entries were read, and this is the place of the next gate
pub record IsReadTo (bytes : List ℕ) (payloads : List (List ℕ)) (at : ℕ) : Type 0 where
  pub listed_is : listed_in bytes ≡ entries_then payloads (listed 0 at (drop at bytes))
  pub at_is : at ≡ 41 + length (flat_map entry payloads)
  pub within : at < length bytes

-- all entries were read, and the gate at this place isn't open
pub record IsReadAll (bytes : List ℕ) (payloads : List (List ℕ)) (at gate : ℕ) : Type 0 where
  pub listed_is : listed_in bytes ≡ entries_then payloads (stops (drop at bytes))
  pub at_is : at ≡ 41 + length (flat_map entry payloads)
  pub within : at < length bytes
  pub gate_is : gate ≡ get_or bytes at 0
  pub shut : gate ≢ 1

abbrev pub standing_at : ℕ → Bool → Standing
standing_at gate follows = if gate == 0 then (if follows then Behind else Settled) else AtGate
