-- The calls of a disk in memory, replayed.
use Rattle.std.specs.Prelude.{◌≡◌, ◌⊎◌, ℕ, List, [], ◌∷◌, length, take}
use Rattle.eco_disk.specs.declared.call.Call.{Call}
use Rattle.eco_disk.specs.declared.call.Call.TheVariants.{Len, Read, Write, Cut, Sync}
use Rattle.eco_disk.specs.declared.call.Attempt.{Attempt}
use Rattle.eco_disk.specs.declared.call.Attempt.TheVariants.{Made, Failed}
use Rattle.eco_disk.specs.Disk.{Torn, written}
use Rattle.eco_disk.specs.Disk as disk

-- the call, made or not
abbrev pub call_in : Attempt → Call
call_in (Made call) = call
call_in (Failed call) = call

-- what a read gives after a call
abbrev pub made : Call → List ℕ → List ℕ
made Len bytes = bytes
made (Read at len) bytes = bytes
made (Write at piece) bytes = written at piece bytes
made (Cut len) bytes = take len bytes
made Sync bytes = bytes

abbrev pub made_by : Attempt → List ℕ → List ℕ
made_by (Made call) bytes = made call bytes
made_by (Failed call) bytes = bytes

abbrev pub made_all : List Attempt → List ℕ → List ℕ
made_all [] bytes = bytes
made_all (attempt ∷ attempts) bytes = made_all attempts (made_by attempt bytes)

-- What a crash may leave after a call, by what it might leave before: after a write or a cut what a read gives, or
-- what that makes of an image, wholly or in part; after a sync what a read gives.
abbrev pub left : Call → List ℕ → (List ℕ → Type 0) → List ℕ → Type 0
left Len bytes leaves c = leaves c
left (Read at len) bytes leaves c = leaves c
left (Write at piece) bytes leaves c = (c ≡ written at piece bytes) ⊎ ((d : List ℕ) × leaves d × Torn at (length piece) d c)
left (Cut len) bytes leaves c = (c ≡ take len bytes) ⊎ ((d : List ℕ) × leaves d × disk.Cut len d c)
left Sync bytes leaves c = c ≡ bytes

abbrev pub left_by : Attempt → List ℕ → (List ℕ → Type 0) → List ℕ → Type 0
left_by (Made call) bytes leaves c = left call bytes leaves c
left_by (Failed call) bytes leaves c = leaves c

abbrev pub left_all : List Attempt → List ℕ → (List ℕ → Type 0) → List ℕ → Type 0
left_all [] bytes leaves c = leaves c
left_all (attempt ∷ attempts) bytes leaves c = left_all attempts (made_by attempt bytes) (left_by attempt bytes leaves) c

-- what a crash may leave after the first t calls on a disk that had these bytes at first
abbrev pub image_at : List ℕ → List Attempt → ℕ → List ℕ → Type 0
image_at first attempts t c = left_all (take t attempts) first (λ d. d ≡ first) c
