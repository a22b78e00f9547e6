-- How a command line ends, by what the host was and is.
use Rattle.std.specs.Prelude.{◌≡◌, ℕ, ◌<◌, ◌≤◌, ◌⊎◌, List, [], ◌∷◌, ◌++◌, length, take, Option, Some, None, Result, Ok, Err}
use Rattle.eco_common.specs.Causes.{Rose}
use Rattle.eco_cli.specs.Job.{Input, Job, ready_after, source_opens, opens_of}
use Rattle.eco_cli.specs.Commands.{job_of, Asks, IsBadWord}
use Rattle.eco_cli.specs.Opens.{Ready, Asked, Told, Adds, without_first, with_back}
use Rattle.eco_cli.specs.Returns.{Returns}
use Rattle.eco_cli.specs.declared.command.Command.{Command}
use Rattle.eco_cli.specs.declared.done.Done.{Done}
use Rattle.eco_cli.specs.declared.failure.Failure.{Failure}
use Rattle.eco_cli.specs.declared.failure.Failure.TheVariants as failed

-- ---- what is told of inputs

-- the host tells that the source of a name has this text
abbrev pub IsText : {I : Type 0} → Ready I → (I → Option (List ℕ)) → List ℕ → List ℕ → Type 0
IsText {I} ready left name text = (lists : List ℕ → List I) × (source : I) × (others : List I) × (ready ≡ Some lists) × (lists name ≡ source ∷ others) × (left source ≡ Some text)

-- a text that was read is the one that is told
abbrev pub IsRead : {I : Type 0} → Ready I → (I → Option (List ℕ)) → List ℕ → List ℕ → Type 0
IsRead ready left name bytes = (text : List ℕ) → IsText ready left name text → bytes ≡ text

-- texts of these inputs were read one after another, none longer than it may be
abbrev pub AreRead : {I : Type 0} → Ready I → (I → Option (List ℕ)) → List Input → List (List ℕ) → Type 0
AreRead ready left [] [] = Unit {0}
AreRead ready left (i ∷ is) (t ∷ ts) = IsRead ready left i.name t × (length t ≤ i.limit) × AreRead (without_first i.name ready) left is ts
AreRead ready left inputs texts = ⊥

-- the host was asked for these opens, and no other
abbrev pub AsksAll : List Asked → Option (List Asked) → Option (List Asked) → Type 0
AsksAll opens old new = Adds opens old new

-- All inputs before this one were read, and this one was asked for last.
pub record Reaches {T I O : Type 0} (h : Told T I O) (left : I → Option (List ℕ)) (old new : T) (inputs before : List Input) (i : Input) : Type 0 where
  pub behind : List Input
  pub order : inputs ≡ before ++ i ∷ behind
  pub texts : List (List ℕ)
  pub read : AreRead (h.sources old) left before texts
  pub asked : AsksAll (source_opens (before ++ i ∷ [])) (h.asked old) (h.asked new)

-- An input is longer than it may be, the first that is, and no open was refused.
abbrev pub StopsLong : {T I O : Type 0} → Told T I O → (I → Option (List ℕ)) → T → T → List Input → List ℕ → Type 0
StopsLong h left old new inputs option = (before : List Input) × (i : Input) × Reaches h left old new inputs before i × (option ≡ i.option)
    × ((text : List ℕ) → IsText (ready_after before (h.sources old)) left i.name text → i.limit < length text) × (h.refused new ≡ h.refused old)

-- The open of an input was refused, or a read of it failed.
abbrev pub StopsFailed : {T I O : Type 0} → Told T I O → (I → Option (List ℕ)) → T → T → List Input → Type 0
StopsFailed h left old new inputs = (before : List Input) × (i : Input) × Reaches h left old new inputs before i × (Rose (h.refused old) (h.refused new) ⊎ Rose (h.read_faults old) (h.read_faults new))

-- ---- what is told of an output

-- one more sink was given back, which took all these bytes, where it tells them
abbrev pub GivesBack : {O : Type 0} → (O → Option (List ℕ)) → Option (List O) → Option (List O) → List ℕ → Type 0
GivesBack {O} taken old new bytes = (sink : O) × (new ≡ with_back old sink) × ((some : List ℕ) → taken sink ≡ Some some → some ≡ bytes)

-- one more sink was given back, which took a front of these bytes
abbrev pub GivesFront : {O : Type 0} → (O → Option (List ℕ)) → Option (List O) → Option (List O) → List ℕ → Type 0
GivesFront {O} taken old new bytes = (sink : O) × (new ≡ with_back old sink) × ((some : List ℕ) → taken sink ≡ Some some → (n : ℕ) × (some ≡ take n bytes))

-- the output has these bytes; without an output none is given back
abbrev pub Puts : {O : Type 0} → (O → Option (List ℕ)) → Option (List ℕ) → Option (List O) → Option (List O) → List ℕ → Type 0
Puts taken None old new bytes = new ≡ old
Puts taken (Some name) old new bytes = GivesBack taken old new bytes

-- ---- the ends

-- How a job ends:
-- its inputs were read, their texts give this, and the output has its bytes; or they are refused, and no output is opened;
-- or an input is too long; or an open or a read failed; or a write; or memory ran out.
abbrev pub Ends : {T I O : Type 0} → Told T I O → (I → Option (List ℕ)) → (O → Option (List ℕ)) → T → T → Job → Result Done Failure → Type 0
Ends h left taken old new j (Ok done) = (texts : List (List ℕ)) × (bytes : List ℕ) × AreRead (h.sources old) left j.inputs texts × j.Gives texts done bytes
    × AsksAll (opens_of j) (h.asked old) (h.asked new) × Puts taken j.output (h.sinks_back old) (h.sinks_back new) bytes
Ends h left taken old new j (Err (failed.Words n)) = ⊥
Ends h left taken old new j (Err (failed.TooLong option)) = StopsLong h left old new j.inputs option.now × (h.sinks_back new ≡ h.sinks_back old)
Ends h left taken old new j (Err (failed.Refused refusal)) = (texts : List (List ℕ)) × AreRead (h.sources old) left j.inputs texts × j.Refuses texts refusal
    × AsksAll (source_opens j.inputs) (h.asked old) (h.asked new) × (h.sinks_back new ≡ h.sinks_back old)
Ends h left taken old new j (Err failed.Read) = (h.sinks_back new ≡ h.sinks_back old)
    × (StopsFailed h left old new j.inputs
    ⊎ ((texts : List (List ℕ)) × (done : Done) × (bytes : List ℕ) × (name : List ℕ) × AreRead (h.sources old) left j.inputs texts × j.Gives texts done bytes
    × (j.output ≡ Some name) × AsksAll (opens_of j) (h.asked old) (h.asked new) × Rose (h.refused old) (h.refused new)))
Ends h left taken old new j (Err failed.Write) = (texts : List (List ℕ)) × (done : Done) × (bytes : List ℕ) × (name : List ℕ) × AreRead (h.sources old) left j.inputs texts × j.Gives texts done bytes
    × (j.output ≡ Some name) × AsksAll (opens_of j) (h.asked old) (h.asked new) × GivesFront taken (h.sinks_back old) (h.sinks_back new) bytes × Rose (h.write_faults old) (h.write_faults new)
Ends h left taken old new j (Err failed.Memory) = ((k : ℕ) × AsksAll (take k (opens_of j)) (h.asked old) (h.asked new)) × (h.sinks_back new ≡ h.sinks_back old) × (h.refused new ≡ h.refused old)

-- How a command line ends: a bad word opens nothing, and the job that a good line asks for ends as it may and gives back its inputs.
abbrev pub Comes : {T I O : Type 0} → Told T I O → (I → Option (List ℕ)) → (O → Option (List ℕ)) → T → T → List (List ℕ) → Result Done Failure → Type 0
Comes h left taken old new words (Err (failed.Words n)) = IsBadWord words n × (h.asked new ≡ h.asked old) × (h.sinks_back new ≡ h.sinks_back old) × (h.sources_back new ≡ h.sources_back old)
Comes h left taken old new words r = (c : Command) × (behind : List (List ℕ)) × Asks words c behind × Ends h left taken old new (job_of c behind) r
    × Returns h left old new (job_of c behind).inputs r

-- a refusal of an input or of what the words ask in it
abbrev pub IsRefusal : Failure → Type 0
IsRefusal (failed.TooLong option) = Unit {0}
IsRefusal (failed.Refused refusal) = Unit {0}
IsRefusal f = ⊥
