-- A disk in memory without its counts: what it holds, and its calls.
use Rattle.std.specs.Prelude.{◌≡◌, ℕ, Bool, true, false, List, [], ◌∷◌, ◌++◌, Result, Ok, Err}
use Rattle.eco_disk.specs.declared.call.Call.{Call}
use Rattle.eco_disk.specs.declared.call.Call.TheVariants.{Len, Read, Write, Cut, Sync}
use Rattle.eco_disk.specs.declared.call.Attempt.{Attempt}
use Rattle.eco_disk.specs.declared.call.Attempt.TheVariants.{Made, Failed}
use Rattle.eco_disk.specs.declared.contents.Contents.{Contents}
use Rattle.eco_disk.specs.declared.counter.Cause.{Cause}
use Rattle.eco_disk.specs.declared.counter.Cause.TheVariants.{Injected, Memory}
use Rattle.eco_disk.specs.Contents.{first_of, kept_of}
use Rattle.eco_disk.specs.Replay.{made}

-- A call is begun: one that is to fail is put in the list as that, and one that finds no memory isn't put there.
abbrev pub CallBegins : Bool → Call → List Attempt → List Attempt → Result Call Cause → Type 0
CallBegins injected call old new (Ok value) = (injected ≡ false) × (new ≡ old) × (value ≡ call)
CallBegins injected call old new (Err Injected) = (injected ≡ true) × (new ≡ old ++ Failed call ∷ [])
CallBegins injected call old new (Err Memory) = new ≡ old

-- and if nothing hinders it, it comes into the list
abbrev pub NotesCall : {T : Type 0} → Bool → Call → List Attempt → List Attempt → Result T Cause → Type 0
NotesCall injected call old new (Ok value) = (injected ≡ false) × (new ≡ old ++ Made call ∷ [])
NotesCall injected call old new (Err Injected) = (injected ≡ true) × (new ≡ old ++ Failed call ∷ [])
NotesCall injected call old new (Err Memory) = new ≡ old

-- a call that changes nothing
abbrev pub IsLook : Call → Type 0
IsLook Len = Unit {0}
IsLook (Read at len) = Unit {0}
IsLook (Write at piece) = ⊥
IsLook (Cut len) = ⊥
IsLook Sync = ⊥

-- what the last sync kept changes by a sync alone
abbrev pub kept_by : Call → List ℕ → List ℕ → List ℕ
kept_by Sync bytes kept = bytes
kept_by Len bytes kept = kept
kept_by (Read at len) bytes kept = kept
kept_by (Write at piece) bytes kept = kept
kept_by (Cut len) bytes kept = kept

-- the call is made, or nothing is
abbrev pub MakesCall : {T : Type 0} → Call → Contents → Contents → Result T Cause → Type 0
MakesCall call old new (Ok value) = (new.bytes.items ≡ made call old.bytes.items) × (kept_of new ≡ kept_by call old.bytes.items (kept_of old))
MakesCall call old new (Err cause) = (new.bytes.items ≡ old.bytes.items) × (kept_of new ≡ kept_of old)

-- one call
pub record Plays {T : Type 0} (injected : Bool) (call : Call) (old new : Contents) (calls more : List Attempt) (outcome : Result T Cause) : Type 0 where
  pub first : first_of new ≡ first_of old
  pub notes : NotesCall injected call calls more outcome
  pub changes : MakesCall call old new outcome
