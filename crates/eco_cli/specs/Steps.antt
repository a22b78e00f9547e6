-- The steps of a job.
use Rattle.std.specs.Prelude.{◌≡◌, ℕ, ◌<◌, ◌≤◌, ◌⊎◌, List, [], ◌∷◌, length, take, Option, Some, Result, Ok, Err}
use Rattle.eco_common.specs.Causes.{Rose}
use Rattle.eco_def.specs.Sections.{IsReadingOf}
use Rattle.eco_issued_laws.specs.Issued.{edited}
use Rattle.eco_overlay.specs.Overlays.{IsMadeFor}
use Rattle.eco_cli.specs.Job.{Input, ready_after, source_opens, sink_opens}
use Rattle.eco_cli.specs.Ending.{IsText, IsRead, AreRead, AsksAll, StopsLong, StopsFailed, GivesFront, Puts}
use Rattle.eco_cli.specs.Opens.{for_source, Told, without_first, with_asked}
use Rattle.eco_cli.specs.declared.done.Done.{Done}
use Rattle.eco_cli.specs.declared.done.Done.TheVariants as done
use Rattle.eco_cli.specs.declared.plan.Plan.{Plan}
use Rattle.eco_cli.specs.declared.plan.Plan.TheVariants as planned
use Rattle.eco_cli.specs.declared.failure.Failure.{Failure}
use Rattle.eco_cli.specs.declared.failure.Failure.TheVariants as failed
use Rattle.eco_cli.specs.declared.refusal.Refusal.{Refusal}

-- How the reading of one input ends: its whole text was read; or it is too long; or the open or a read failed; or memory ran out.
abbrev pub Reading : {T I O V : Type 0} → Told T I O → (I → Option (List ℕ)) → T → T → Input → (V → List ℕ) → Result V Failure → Type 0
Reading h left old new i bytes (Ok v) = IsRead (h.sources old) left i.name (bytes v) × (length (bytes v) ≤ i.limit)
    × (h.asked new ≡ with_asked (h.asked old) (for_source i.name)) × (h.sources new ≡ without_first i.name (h.sources old)) × (h.refused new ≡ h.refused old)
Reading h left old new i bytes (Err (failed.TooLong option)) = (option.now ≡ i.option) × ((text : List ℕ) → IsText (h.sources old) left i.name text → i.limit < length text)
    × (h.asked new ≡ with_asked (h.asked old) (for_source i.name)) × (h.refused new ≡ h.refused old)
Reading h left old new i bytes (Err failed.Read) = (Rose (h.refused old) (h.refused new) ⊎ Rose (h.read_faults old) (h.read_faults new)) × (h.asked new ≡ with_asked (h.asked old) (for_source i.name))
Reading h left old new i bytes (Err failed.Memory) = ((h.asked new ≡ h.asked old) ⊎ (h.asked new ≡ with_asked (h.asked old) (for_source i.name))) × (h.refused new ≡ h.refused old)
Reading h left old new i bytes (Err e) = ⊥

-- How the reading of inputs ends, one after another.
abbrev pub ReadingAll : {T I O V : Type 0} → Told T I O → (I → Option (List ℕ)) → T → T → List Input → (V → List (List ℕ)) → Result V Failure → Type 0
ReadingAll h left old new inputs texts (Ok v) = AreRead (h.sources old) left inputs (texts v) × AsksAll (source_opens inputs) (h.asked old) (h.asked new) × (h.refused new ≡ h.refused old)
ReadingAll h left old new inputs texts (Err (failed.TooLong option)) = StopsLong h left old new inputs option.now
ReadingAll h left old new inputs texts (Err failed.Read) = StopsFailed h left old new inputs
ReadingAll h left old new inputs texts (Err failed.Memory) = ((k : ℕ) × AsksAll (take k (source_opens inputs)) (h.asked old) (h.asked new)) × (h.refused new ≡ h.refused old)
ReadingAll h left old new inputs texts (Err e) = ⊥

-- The first of the inputs were read, and no more was asked.
pub record HaveRead {T I O : Type 0} (h : Told T I O) (left : I → Option (List ℕ)) (old new : T) (inputs : List Input) (texts : List (List ℕ)) : Type 0 where
  pub read : AreRead (h.sources old) left inputs texts
  pub asked : AsksAll (source_opens inputs) (h.asked old) (h.asked new)
  pub rest : h.sources new ≡ ready_after inputs (h.sources old)
  pub refused : h.refused new ≡ h.refused old

-- as many texts as inputs, none longer than it may be
abbrev pub AreWithin : List Input → List (List ℕ) → Type 0
AreWithin [] [] = Unit {0}
AreWithin (i ∷ is) (t ∷ ts) = (length t ≤ i.limit) × AreWithin is ts
AreWithin inputs texts = ⊥

-- the bytes that a plan has for the output
abbrev pub bytes_of : Plan → List ℕ
bytes_of (planned.Issued i) = edited i.text.items 0 i.overlay
bytes_of (planned.Told d) = []

-- what is told once they are written
abbrev pub told_of : Plan → Done
told_of (planned.Issued i) = done.Written (length (edited i.text.items 0 i.overlay))
told_of (planned.Told d) = d

-- a plan that can be carried out: its edits were made for its text
abbrev pub CanBeIssued : Plan → Type 0
CanBeIssued (planned.Issued i) = IsReadingOf i.text.items i.design × IsMadeFor i.text.items i.design i.overlay
CanBeIssued (planned.Told d) = Unit {0}

-- How planning ends, where this may be given or refused: with a plan of it; or refused; or memory ran out.
abbrev pub Plans : (Done → List ℕ → Type 0) → (Refusal → Type 0) → Result Plan Failure → Type 0
Plans gives refuses (Ok p) = gives (told_of p) (bytes_of p) × CanBeIssued p
Plans gives refuses (Err (failed.Refused refusal)) = refuses refusal
Plans gives refuses (Err failed.Memory) = Unit {0}
Plans gives refuses (Err e) = ⊥

-- How the writing to an output ends, if there is one: all bytes were written; or the open was refused; or a write failed; or memory ran out.
abbrev pub Writing : {T I O : Type 0} → Told T I O → (O → Option (List ℕ)) → T → T → Option (List ℕ) → List ℕ → Result (Unit {0}) Failure → Type 0
Writing h taken old new output bytes (Ok x) = AsksAll (sink_opens output) (h.asked old) (h.asked new) × Puts taken output (h.sinks_back old) (h.sinks_back new) bytes
Writing h taken old new output bytes (Err failed.Read) = (name : List ℕ) × (output ≡ Some name) × AsksAll (sink_opens output) (h.asked old) (h.asked new) × (h.sinks_back new ≡ h.sinks_back old) × Rose (h.refused old) (h.refused new)
Writing h taken old new output bytes (Err failed.Write) = (name : List ℕ) × (output ≡ Some name) × AsksAll (sink_opens output) (h.asked old) (h.asked new) × GivesFront taken (h.sinks_back old) (h.sinks_back new) bytes × Rose (h.write_faults old) (h.write_faults new)
Writing h taken old new output bytes (Err failed.Memory) = ((k : ℕ) × AsksAll (take k (sink_opens output)) (h.asked old) (h.asked new)) × (h.sinks_back new ≡ h.sinks_back old) × (h.refused new ≡ h.refused old)
Writing h taken old new output bytes (Err e) = ⊥
