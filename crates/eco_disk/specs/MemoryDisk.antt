-- What a disk in memory shows, and what each of its calls answers.
use Rattle.std.specs.Prelude.{◌≡◌, ◌⊎◌, ◌==◌, if◌then◌else◌, ℕ, Bool, true, false, Option, Some, None, List, [], ◌∷◌, ◌++◌, map, Result, OnOk, OnErr}
use Rattle.eco_disk.specs.declared.memory_disk.MemoryDisk.{MemoryDisk}
use Rattle.eco_disk.specs.declared.call.Call.{Call}
use Rattle.eco_disk.specs.declared.call.Attempt.{Attempt}
use Rattle.eco_disk.specs.declared.call.Attempt.TheVariants.{Made, Failed}
use Rattle.eco_disk.specs.Contents.{first_of, kept_of}
use Rattle.eco_disk.specs.Moments.{moment_of, image_of}
use Rattle.eco_disk.specs.Replay.{made, call_in}
use Rattle.eco_disk.specs.Tape.{kept_by}
use Rattle.eco_disk.specs.Counter.{is_injected}
use Rattle.eco_common.specs.Causes.{next_count}

-- what a read gives
abbrev pub bytes_of : MemoryDisk → List ℕ
bytes_of disk = disk.tape.contents.bytes.items

-- what the last sync that succeeded kept
abbrev pub synced_of : MemoryDisk → List ℕ
synced_of disk = kept_of disk.tape.contents

-- what it had at first
abbrev pub first_bytes : MemoryDisk → List ℕ
first_bytes disk = first_of disk.tape.contents

-- its calls, and whether they were made; those aside that found no memory
abbrev pub attempts_of : MemoryDisk → List Attempt
attempts_of disk = disk.tape.calls.items

-- it reports them
abbrev pub contents : MemoryDisk → Option (List ℕ)
contents disk = Some (bytes_of disk)

-- the clock, and what a crash at a moment may leave
abbrev pub moment : MemoryDisk → ℕ
moment disk = moment_of disk.tape

abbrev pub image : MemoryDisk → ℕ → List ℕ → Type 0
image disk = image_of disk.tape

-- how many calls failed
abbrev pub faults_of : MemoryDisk → ℕ
faults_of disk = disk.counter.faults

-- how many of these found no memory
abbrev pub starved_of : MemoryDisk → ℕ
starved_of disk = disk.counter.starved

-- It reports its calls until one finds no memory: that one isn't in the list.
abbrev pub calls_told : List Attempt → ℕ → Option (List Call)
calls_told attempts starved = if starved == 0 then Some (map call_in attempts) else None

abbrev pub calls_of : MemoryDisk → Option (List Call)
calls_of disk = calls_told (attempts_of disk) (starved_of disk)

-- the numbers of the calls that are to fail, from 1
abbrev pub failing_of : MemoryDisk → List ℕ
failing_of disk = disk.counter.failing.items

-- the number of the last call
abbrev pub number_of : MemoryDisk → ℕ
number_of disk = disk.counter.asked

-- whether the next call is to fail
abbrev pub is_next_injected : MemoryDisk → Bool
is_next_injected disk = is_injected (failing_of disk) (next_count (number_of disk))

-- A call that fails was to fail, or found no memory. It changed nothing, and is counted.
pub record FailsCall (call : Call) (old new : MemoryDisk) : Type 0 where
  pub bytes : bytes_of new ≡ bytes_of old
  pub synced : synced_of new ≡ synced_of old
  pub faults : faults_of new ≡ next_count (faults_of old)
  pub why : ((is_next_injected old ≡ true) × (attempts_of new ≡ attempts_of old ++ Failed call ∷ []) × (starved_of new ≡ starved_of old))
      ⊎ ((attempts_of new ≡ attempts_of old) × (starved_of new ≡ next_count (starved_of old)))

-- A call that succeeds wasn't to fail, and is made whole.
pub record SucceedsCall (call : Call) (old new : MemoryDisk) : Type 0 where
  pub not_injected : is_next_injected old ≡ false
  pub bytes : bytes_of new ≡ made call (bytes_of old)
  pub synced : synced_of new ≡ kept_by call (bytes_of old) (synced_of old)
  pub attempts : attempts_of new ≡ attempts_of old ++ Made call ∷ []
  pub faults : faults_of new ≡ faults_of old
  pub starved : starved_of new ≡ starved_of old

-- one call of a disk in memory
pub record AnswersCall {T E : Type 0} (call : Call) (old new : MemoryDisk) (result : Result T E) : Type 0 where
  pub first : first_bytes new ≡ first_bytes old
  pub failing : failing_of new ≡ failing_of old
  pub number : number_of new ≡ next_count (number_of old)
  pub ok : OnOk result (SucceedsCall call old new)
  pub err : OnErr result (FailsCall call old new)
