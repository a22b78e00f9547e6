-- How a journal's disk stands between two calls.
use Rattle.std.specs.Prelude.{◌≡◌, ℕ, List, [], ◌∷◌, ◌++◌, length, Option, Result, OnOk, IsErrOf, MatchResult}
use Rattle.eco_disk.specs.Disk.{Has, During}
use Rattle.eco_disk.specs.declared.disk.Disk.{Ghosts}
use Rattle.eco_journal.specs.declared.standing.Standing.{Standing}
use Rattle.eco_journal.specs.declared.standing.Standing.TheVariants.{Settled, Behind, AtGate}
use Rattle.eco_journal.specs.declared.faults.JournalFault.{JournalFault}
use Rattle.eco_journal.specs.declared.faults.AppendFault.{AppendFault}
use Rattle.eco_journal.specs.declared.faults.AppendFault.TheVariants.{Disk}
use Rattle.eco_journal.specs.declared.journal.Journal.{Journal}
use Rattle.eco_journal.specs.Layout.{IsHead, IsPayload, ArePayloads, front, behind}
use Rattle.eco_journal.specs.Unfinished.{StoresOnly, StoresOr}

-- a closed gate, and whatever stands after it
abbrev pub IsClosed : List ℕ → List ℕ → Type 0
IsClosed start bytes = (rest : List ℕ) × (bytes ≡ start ++ 0 ∷ rest)

-- the unfinished entry stands whole after some gate
abbrev pub IsTornGate : List ℕ → List ℕ → List ℕ → Type 0
IsTornGate start payload bytes = (gate : ℕ) × (bytes ≡ start ++ gate ∷ behind payload)

-- what stands from the gate on
abbrev pub Form : Standing → List ℕ → List ℕ → List ℕ → Type 0
Form Settled start payload bytes = bytes ≡ start ++ 0 ∷ []
Form Behind start payload bytes = IsClosed start bytes
Form AtGate start payload bytes = IsTornGate start payload bytes

-- only an unfinished entry that stands whole has to be a payload
abbrev pub IsUnfinished : Standing → List ℕ → Type 0
IsUnfinished Settled payload = Unit {0}
IsUnfinished Behind payload = Unit {0}
IsUnfinished AtGate payload = IsPayload payload

-- A journal of a base on an honest disk, with these entries and this unfinished one.
pub record IsSound (digest : List ℕ) (payloads : List (List ℕ)) (payload : List ℕ) (contents : Option (List ℕ)) (leaves : List ℕ → Type 0) (gate : ℕ) (standing : Standing) : Type 0 where
  pub head : List ℕ
  pub is_head : IsHead digest head
  pub are_payloads : ArePayloads payloads
  pub gate_is : gate ≡ length (front head payloads)
  pub has : Has contents leaves (Form standing (front head payloads) payload)
  pub unfinished : IsUnfinished standing payload

-- the same of a journal
pub record Sound {D : Type 0} {g : Ghosts D} (digest : List ℕ) (payloads : List (List ℕ)) (payload : List ℕ) (journal : Journal D g) : Type 0 where
  pub is : IsSound digest payloads payload (g.contents journal.disk) (g.image journal.disk (g.moment journal.disk)) journal.gate journal.standing

-- what a crash may leave now is whole and has these entries, none of them unfinished
abbrev pub Keeps : {D : Type 0} {g : Ghosts D} → List ℕ → List (List ℕ) → Journal D g → Type 0
Keeps {g = g} digest payloads journal = (c : List ℕ) → g.image journal.disk (g.moment journal.disk) c → StoresOnly digest payloads c

-- at each moment of a call, each image has P
abbrev pub Throughout : {D : Type 0} {g : Ghosts D} → Journal D g → Journal D g → (List ℕ → Type 0) → Type 0
Throughout {g = g} old new P = During (g.moment old.disk) (g.moment new.disk) (g.image old.disk) (g.image new.disk) P

-- what an append does
pub record Appends {D T : Type 0} {g : Ghosts D} (digest : List ℕ) (payloads : List (List ℕ)) (payload : List ℕ) (old new : Journal D g) (result : Result T AppendFault) : Type 0 where
  pub any_moment : Throughout old new (StoresOr digest payloads payload)
  pub added : OnOk result (Sound digest (payloads ++ payload ∷ []) payload new × Keeps digest (payloads ++ payload ∷ []) new)
  pub unfinished : IsErrOf result Disk → Sound digest payloads payload new

-- what a crash may leave by how the journal stands: the unfinished entry may be there only where a write was begun at its gate
abbrev pub Leaves : Standing → List ℕ → List (List ℕ) → List ℕ → List ℕ → Type 0
Leaves Settled digest payloads payload bytes = StoresOnly digest payloads bytes
Leaves Behind digest payloads payload bytes = StoresOnly digest payloads bytes
Leaves AtGate digest payloads payload bytes = StoresOr digest payloads payload bytes

-- what a mend does
pub record Mends {D T E : Type 0} {g : Ghosts D} (digest : List ℕ) (payloads : List (List ℕ)) (payload : List ℕ) (old new : Journal D g) (result : Result T E) : Type 0 where
  pub any_moment : Throughout old new (Leaves old.standing digest payloads payload)
  pub sound : Sound digest payloads payload new
  pub mended : OnOk result (Keeps digest payloads new)

-- what taking away the end of a journal that was found does
abbrev pub Settles : {D T : Type 0} {g : Ghosts D} → Standing → List ℕ → List (List ℕ) → List ℕ → D → Result (Journal D g × T) (D × JournalFault) → Type 0
Settles {g = g} standing digest payloads last disk result = MatchResult result
    (λ r. During (g.moment disk) (g.moment r.0.disk) (g.image disk) (g.image r.0.disk) (Leaves standing digest payloads last) × Sound digest payloads last r.0 × Keeps digest payloads r.0)
    (λ e. During (g.moment disk) (g.moment e.0) (g.image disk) (g.image e.0) (Leaves standing digest payloads last))
