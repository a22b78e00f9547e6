-- What a start of a journal finds and does.
use Rattle.std.specs.Prelude.{◌≡◌, ◌≢◌, ◌⊎◌, ◌<◌, ◌≤◌, ℕ, true, false, List, [], ◌∷◌, ◌++◌, length, take, drop, get_or, Option, Some, IsTrue, IsFalse, Result, IfOk, IfErr, MatchResult, Vec}
use Rattle.std.specs.declared.alloc.Global.{Global}
use Rattle.eco_disk.specs.Disk.{During}
use Rattle.eco_disk.specs.declared.disk.Disk.{Ghosts}
use Rattle.eco_journal.specs.declared.journal.Journal.{Journal}
use Rattle.eco_journal.specs.declared.entry.Entry.{Entry}
use Rattle.eco_journal.specs.declared.found.Found.{Found}
use Rattle.eco_journal.specs.declared.standing.Standing.TheVariants.{AtGate}
use Rattle.eco_journal.specs.declared.header.Beginning.{Beginning}
use Rattle.eco_journal.specs.declared.header.Beginning.TheVariants.{Fresh, Headed}
use Rattle.eco_journal.specs.declared.faults.JournalFault.{JournalFault}
use Rattle.eco_journal.specs.declared.faults.JournalFault.TheVariants.{Disk, BaseDiffers, BadRecord, Memory}
use Rattle.eco_journal.specs.Layout.{is_fresh, has_header, HasBase, entries, bad_record, front, behind, ArePayloads, IsHead, Stores, IsWholeJournal}
use Rattle.eco_journal.specs.Unfinished.{OnceOpened}
use Rattle.eco_journal.specs.Sound.{IsSound, Sound, Keeps}

abbrev pub IsBeginning : List ℕ → Beginning → Type 0
IsBeginning bytes (Fresh true) = IsTrue (is_fresh bytes) × (1 < length bytes) × (get_or bytes 0 0 ≡ 0)
IsBeginning bytes (Fresh false) = IsTrue (is_fresh bytes) × ((length bytes ≤ 1) ⊎ (get_or bytes 0 0 ≢ 0))
IsBeginning bytes Headed = IsFalse (is_fresh bytes)

-- BaseDiffers has both digests
abbrev pub DiffersAt : List ℕ → List ℕ → JournalFault → Type 0
DiffersAt bytes digest (BaseDiffers kept given) = IsTrue (has_header bytes) × (kept ≡ take 32 (drop 9 bytes)) × (given ≡ digest) × (kept ≢ given)
DiffersAt bytes digest Disk = Unit {0}
DiffersAt bytes digest (BadRecord place) = Unit {0}
DiffersAt bytes digest Memory = Unit {0}

-- Each refusal has its cause in the bytes: a header of another base, or else no header, or an entry that isn't whole.
abbrev pub Refuses : List ℕ → List ℕ → JournalFault → Type 0
Refuses digest bytes (BaseDiffers kept given) = IsTrue (has_header bytes) × (kept ≡ take 32 (drop 9 bytes)) × (given ≡ digest) × (kept ≢ given)
Refuses digest bytes (BadRecord place) = (bad_record bytes ≡ Some place) × HasBase digest bytes
Refuses digest bytes Disk = Unit {0}
Refuses digest bytes Memory = Unit {0}

-- a refusal of the bytes, for which the disk isn't changed
abbrev pub IsRefusal : JournalFault → Type 0
IsRefusal (BaseDiffers kept given) = Unit {0}
IsRefusal (BadRecord place) = Unit {0}
IsRefusal Disk = ⊥
IsRefusal Memory = ⊥

-- gate 0 stands closed, and no header was opened
abbrev pub IsUnopened : List ℕ → Type 0
IsUnopened bytes = (rest : List ℕ) × (bytes ≡ 0 ∷ rest) × (length rest ≤ 41)

-- These bytes end in a whole entry after a gate that is neither closed nor open. With a 1 at that gate they have it, too.
pub record IsUnfinishedIn (digest bytes : List ℕ) (payloads : List (List ℕ)) (payload : List ℕ) : Type 0 where
  pub head : List ℕ
  pub is_head : IsHead digest head
  pub are_payloads : ArePayloads payloads
  pub gate : ℕ
  pub not_closed : gate ≢ 0
  pub not_open : gate ≢ 1
  pub is : bytes ≡ front head payloads ++ gate ∷ behind payload
  pub opened : Stores digest (payloads ++ payload ∷ []) (front head payloads ++ 1 ∷ behind payload)

-- these entries and the unfinished one of the bytes
abbrev pub StoresUnfinished : List ℕ → List ℕ → List (List ℕ) → List ℕ → Type 0
StoresUnfinished digest bytes payloads image = (payload : List ℕ) × IsUnfinishedIn digest bytes payloads payload × Stores digest (payloads ++ payload ∷ []) image

-- these entries; only that of the bytes may be unfinished
pub record StoresAs (digest bytes : List ℕ) (payloads : List (List ℕ)) (image : List ℕ) : Type 0 where
  pub stores : Stores digest payloads image
  pub unfinished : OnceOpened image (StoresUnfinished digest bytes payloads)

-- These entries, or those and the unfinished one of the bytes. Only that may be unfinished.
pub record OneMore (digest bytes : List ℕ) (payloads : List (List ℕ)) (image : List ℕ) : Type 0 where
  pub stores : Stores digest payloads image ⊎ StoresUnfinished digest bytes payloads image
  pub unfinished : OnceOpened image (StoresUnfinished digest bytes payloads)

-- neither BadRecord nor BaseDiffers
abbrev pub IsDiskOrMemory : JournalFault → Type 0
IsDiskOrMemory Disk = Unit {0}
IsDiskOrMemory Memory = Unit {0}
IsDiskOrMemory (BadRecord place) = ⊥
IsDiskOrMemory (BaseDiffers kept given) = ⊥

-- a sound journal with these entries; an unfinished one is that of the bytes
pub record FindsSound (digest bytes : List ℕ) (payloads : List (List ℕ)) (contents : Option (List ℕ)) (leaves : List ℕ → Type 0) (found : Found) : Type 0 where
  pub entries_are : found.entries.items ≡ payloads
  pub last : List ℕ
  pub sound : IsSound digest payloads last contents leaves found.gate found.standing
  pub unfinished : found.standing ≡ AtGate → IsUnfinishedIn digest bytes payloads last

-- what looking at an honest disk finds, all of which is kept
pub record Finds (digest bytes : List ℕ) (payloads : List (List ℕ)) (contents : Option (List ℕ)) (before now : ℕ) (past present : ℕ → List ℕ → Type 0) (result : Result Found JournalFault) : Type 0 where
  pub any_moment : During before now past present (StoresAs digest bytes payloads)
  pub found : IfOk result (FindsSound digest bytes payloads contents (present now))
  pub no_refusal : IfErr result IsDiskOrMemory

-- the entries of bytes that have no other base
abbrev pub AreEntries : List ℕ → List ℕ → List (List ℕ) → Type 0
AreEntries digest bytes payloads = (entries bytes ≡ Some payloads) × HasBase digest bytes

-- What is kept while a journal is opened. From some moment on, its first sync, each image has the entries, or those
-- and one; before it the images are those that the disk was handed in with. P says that the sync was reached.
pub record StartKeeps (P : Type 0) (digest bytes : List ℕ) (payloads : List (List ℕ)) (before now : ℕ) (past present : ℕ → List ℕ → Type 0) : Type 0 where
  pub any_moment : During before now past present (IsWholeJournal digest)
  pub first : ℕ
  pub reached : P → first ≤ now
  pub until : (t : ℕ) (c : List ℕ) → before ≤ t → t ≤ now → t < first → present t c → past before c
  pub since : (t : ℕ) (c : List ℕ) → first ≤ t → t ≤ now → present t c → OneMore digest bytes payloads c

-- what a start does on an honest disk
abbrev pub Starts : {D : Type 0} {g : Ghosts D} → List ℕ → List ℕ → List (List ℕ) → D → Result (Journal D g × Vec Entry Global) (D × JournalFault) → Type 0
Starts {g = g} digest bytes payloads disk result = MatchResult result
    (λ r. StartKeeps (Unit {0}) digest bytes payloads (g.moment disk) (g.moment r.0.disk) (g.image disk) (g.image r.0.disk) × (r.1.items ≡ payloads) × Keeps digest payloads r.0 × ((last : List ℕ) × Sound digest payloads last r.0))
    (λ e. StartKeeps (e.1 ≢ Disk) digest bytes payloads (g.moment disk) (g.moment e.0) (g.image disk) (g.image e.0) × IsDiskOrMemory e.1)
