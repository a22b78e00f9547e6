-- How a job ends, from how its steps end.
use Rattle.std.proofs.Common.{◌≡◌, ℕ, ◌+◌, min, inl, inr, List, [], ◌∷◌, ◌++◌, length, take, Option, Ok, Err, sym, subst, ◌∙◌, append-nil, arith}
use Rattle.std.proofs.lemmas.List.{take-append-le, take_min}
use Rattle.eco_cli.specs.Ending.{Ends, AsksAll, AreRead, GivesFront, Puts}
use Rattle.eco_cli.specs.Job.{Input, Job, source_opens, sink_opens, opens_of}
use Rattle.eco_cli.specs.Opens.{Told, Ready, Asked, Settled, without_first}
use Rattle.eco_cli.specs.Steps.{ReadingAll, AreWithin, Plans, Writing, bytes_of, told_of}
use Rattle.eco_cli.specs.declared.plan.Plan.{Plan}
use Rattle.eco_cli.specs.declared.failure.Failure.{Failure}
use Rattle.eco_cli.specs.declared.failure.Failure.TheVariants as failed
use Rattle.eco_cli.proofs.Reading.{adds_then, asks_front, rose_since}

-- ---- what was asked

-- some first opens of the inputs are some first opens of all
asks_first : (xs ys : List Asked) (k : ℕ) (old new : Option (List Asked)) → AsksAll (take k xs) old new → AsksAll (take (min k (length xs)) (xs ++ ys)) old new
asks_first xs ys k old new asked = subst (λ opens. AsksAll opens old new) (sym (take-append-le (min k (length xs)) xs ys (omega arith) ∙ take_min k xs)) asked

asks_sources : (xs ys : List Asked) (old new : Option (List Asked)) → AsksAll xs old new → AsksAll (take (length xs + 0) (xs ++ ys)) old new
asks_sources xs ys old new asked = asks_front xs ys 0 old new (subst (λ opens. AsksAll opens old new) (sym (append-nil xs)) asked)

-- ---- what the output is

back_since : {O : Type 0} (taken : O → Option (List ℕ)) (output : Option (List ℕ)) (old mid new : Option (List O)) (bytes : List ℕ) → mid ≡ old → Puts taken output mid new bytes → Puts taken output old new bytes
back_since taken output old mid new bytes same puts = subst (λ o. Puts taken output o new bytes) same puts

front_since : {O : Type 0} (taken : O → Option (List ℕ)) (old mid new : Option (List O)) (bytes : List ℕ) → mid ≡ old → GivesFront taken mid new bytes → GivesFront taken old new bytes
front_since taken old mid new bytes same front = subst (λ o. GivesFront taken o new bytes) same front

-- ---- texts that were read are short enough

pub are_within : {I : Type 0} (ready : Ready I) (left : I → Option (List ℕ)) (inputs : List Input) (texts : List (List ℕ)) → AreRead ready left inputs texts → AreWithin inputs texts
are_within ready left [] [] read = tt
are_within ready left [] (t ∷ ts) read = absurd read
are_within ready left (i ∷ is) [] read = absurd read
are_within ready left (i ∷ is) (t ∷ ts) read = (read.1, are_within (without_first i.name ready) left is ts read.2)

-- ---- the ends of a job

pub ends_reading : {T I O V : Type 0} (h : Told T I O) (left : I → Option (List ℕ)) (taken : O → Option (List ℕ)) (old new : T) (j : Job) (texts : V → List (List ℕ)) (e : Failure) →
    ReadingAll h left old new j.inputs texts (Err e) → h.sinks_back new ≡ h.sinks_back old → Ends h left taken old new j (Err e)
ends_reading h left taken old new j texts (failed.Words n) r back = absurd r
ends_reading h left taken old new j texts (failed.TooLong option) r back = (r, back)
ends_reading h left taken old new j texts (failed.Refused refusal) r back = absurd r
ends_reading h left taken old new j texts failed.Read r back = (back, inl r)
ends_reading h left taken old new j texts failed.Write r back = absurd r
ends_reading h left taken old new j texts failed.Memory r back =
    ((min r.0.0 (length (source_opens j.inputs)), asks_first (source_opens j.inputs) (sink_opens j.output) r.0.0 (h.asked old) (h.asked new) r.0.1), back, r.1)

pub ends_planning : {T I O V : Type 0} (h : Told T I O) (left : I → Option (List ℕ)) (taken : O → Option (List ℕ)) (old new : T) (j : Job) (texts : V → List (List ℕ)) (v : V) (e : Failure) →
    ReadingAll h left old new j.inputs texts (Ok v) → h.sinks_back new ≡ h.sinks_back old → Plans (j.Gives (texts v)) (j.Refuses (texts v)) (Err e) → Ends h left taken old new j (Err e)
ends_planning h left taken old new j texts v (failed.Words n) r back p = absurd p
ends_planning h left taken old new j texts v (failed.TooLong option) r back p = absurd p
ends_planning h left taken old new j texts v (failed.Refused refusal) r back p = (texts v, r.0, p, r.1, back)
ends_planning h left taken old new j texts v failed.Read r back p = absurd p
ends_planning h left taken old new j texts v failed.Write r back p = absurd p
ends_planning h left taken old new j texts v failed.Memory r back p =
    ((length (source_opens j.inputs) + 0, asks_sources (source_opens j.inputs) (sink_opens j.output) (h.asked old) (h.asked new) r.1), back, r.2)

asks_all : {T I O : Type 0} (h : Told T I O) (old mid new : T) (j : Job) → AsksAll (source_opens j.inputs) (h.asked old) (h.asked mid) → AsksAll (sink_opens j.output) (h.asked mid) (h.asked new) → AsksAll (opens_of j) (h.asked old) (h.asked new)
asks_all h old mid new j one two = adds_then (source_opens j.inputs) (sink_opens j.output) (h.asked old) (h.asked mid) (h.asked new) one two

pub ends_done : {T I O V : Type 0} (h : Told T I O) (left : I → Option (List ℕ)) (taken : O → Option (List ℕ)) (old mid new : T) (j : Job) (texts : V → List (List ℕ)) (v : V) (p : Plan) →
    ReadingAll h left old mid j.inputs texts (Ok v) → h.sinks_back mid ≡ h.sinks_back old → Plans (j.Gives (texts v)) (j.Refuses (texts v)) (Ok p) → Writing h taken mid new j.output (bytes_of p) (Ok tt) →
    Ends h left taken old new j (Ok (told_of p))
ends_done h left taken old mid new j texts v p r back planned w = (
  texts v,
  bytes_of p,
  r.0,
  planned.0,
  asks_all h old mid new j r.1 w.0,
  back_since taken j.output (h.sinks_back old) (h.sinks_back mid) (h.sinks_back new) (bytes_of p) back w.1,
)

pub ends_writing : {T I O V : Type 0} (h : Told T I O) (left : I → Option (List ℕ)) (taken : O → Option (List ℕ)) (old mid new : T) (j : Job) (texts : V → List (List ℕ)) (v : V) (p : Plan) (e : Failure) →
    Settled h old mid → ReadingAll h left old mid j.inputs texts (Ok v) → h.sinks_back mid ≡ h.sinks_back old → Plans (j.Gives (texts v)) (j.Refuses (texts v)) (Ok p) → Writing h taken mid new j.output (bytes_of p) (Err e) →
    Ends h left taken old new j (Err e)
ends_writing h left taken old mid new j texts v p (failed.Words n) settled r back planned w = absurd w
ends_writing h left taken old mid new j texts v p (failed.TooLong option) settled r back planned w = absurd w
ends_writing h left taken old mid new j texts v p (failed.Refused refusal) settled r back planned w = absurd w
ends_writing h left taken old mid new j texts v p failed.Read settled r back planned w = (
  w.3 ∙ back,
  inr (
    texts v,
    told_of p,
    bytes_of p,
    w.0,
    r.0,
    planned.0,
    w.1,
    asks_all h old mid new j r.1 w.2,
    rose_since (h.refused old) (h.refused mid) (h.refused new) settled.refusals w.4,
  ),
)
ends_writing h left taken old mid new j texts v p failed.Write settled r back planned w = (
  texts v,
  told_of p,
  bytes_of p,
  w.0,
  r.0,
  planned.0,
  w.1,
  asks_all h old mid new j r.1 w.2,
  front_since taken (h.sinks_back old) (h.sinks_back mid) (h.sinks_back new) (bytes_of p) back w.3,
  rose_since (h.write_faults old) (h.write_faults mid) (h.write_faults new) settled.write_faults w.4,
)
ends_writing h left taken old mid new j texts v p failed.Memory settled r back planned w = (
  (
    length (source_opens j.inputs) + w.0.0,
    asks_front (source_opens j.inputs) (sink_opens j.output) w.0.0 (h.asked old) (h.asked new)
        (adds_then (source_opens j.inputs) (take w.0.0 (sink_opens j.output)) (h.asked old) (h.asked mid) (h.asked new) r.1 w.0.1),
  ),
  w.1 ∙ back,
  w.2 ∙ r.2,
)
