-- What is given back of inputs that are read one after another.
use Rattle.std.proofs.Common.{◌≡◌, ℕ, ◌+◌, ◌≤◌, inl, inr, List, [], ◌∷◌, ◌++◌, Option, Result, Ok, Err, refl, ap, sym, subst, ◌∙◌, append_assoc, append-nil, arith}
use Rattle.std.specs.Io.KnownBytes.{IsAtEnd}
use Rattle.eco_cli.specs.Job.{Input, ready_after}
use Rattle.eco_cli.specs.Opens.{Told, Ready, Adds, IsFirst, with_back, without_first}
use Rattle.eco_cli.specs.Returns.{IsReadFor, AreReadWhole, ReturnsAll, ReturnsUpTo, ReturnsSome, Returns}
use Rattle.eco_cli.specs.Whole.{HasTaken}
use Rattle.eco_cli.specs.Steps.{Reading, Plans, Writing}
use Rattle.eco_cli.specs.declared.done.Done.{Done}
use Rattle.eco_cli.specs.declared.failure.Failure.{Failure}
use Rattle.eco_cli.specs.declared.failure.Failure.TheVariants as failed
use Rattle.eco_cli.specs.declared.refusal.Refusal.{Refusal}
use Rattle.eco_cli.proofs.Reading.{adds_none, adds_then}

-- ---- one source

one_back : {T I O : Type 0} (h : Told T I O) (old mid new : T) (source : I) → h.sources_back mid ≡ h.sources_back old → h.sources_back new ≡ with_back (h.sources_back mid) source → Adds (source ∷ []) (h.sources_back old) (h.sources_back new)
one_back h old mid new source same back = back ∙ ap (λ b. with_back b source) same

-- it was read to its end
pub whole_back : {T I O : Type 0} (h : Told T I O) (left : I → Option (List ℕ)) (old mid new : T) (i : Input) (opened source : I) → IsFirst i.name (h.sources old) opened →
    (n : ℕ) × (n ≤ i.limit) × HasTaken n (left opened) (left source) × IsAtEnd (left source) → h.sources_back mid ≡ h.sources_back old → h.sources_back new ≡ with_back (h.sources_back mid) source → ReturnsAll h left old new (i ∷ [])
whole_back h left old mid new i opened source first read same back = record {
  sources = source ∷ [];
  whole = ((read.0, read.1, record { opened = opened; first = first; taken = read.2 }, read.3), tt);
  back = one_back h old mid new source same back;
}

-- some bytes of it were read
pub part_back : {T I O : Type 0} (h : Told T I O) (left : I → Option (List ℕ)) (old mid new : T) (i : Input) (n : ℕ) (opened source : I) → IsFirst i.name (h.sources old) opened →
    HasTaken n (left opened) (left source) → h.sources_back mid ≡ h.sources_back old → h.sources_back new ≡ with_back (h.sources_back mid) source → ReturnsUpTo h left old new [] i n
part_back h left old mid new i n opened source first taken same back = record {
  sources = [];
  last = source;
  whole = tt;
  read = record { opened = opened; first = first; taken = taken };
  back = one_back h old mid new source same back;
}

-- ---- one reading after another

whole_then : {I : Type 0} (ready : Ready I) (left : I → Option (List ℕ)) (xs ys : List Input) (ss ts : List I) → AreReadWhole ready left xs ss → AreReadWhole (ready_after xs ready) left ys ts → AreReadWhole ready left (xs ++ ys) (ss ++ ts)
whole_then ready left [] ys [] ts one two = two
whole_then ready left [] ys (s ∷ ss) ts one two = absurd one
whole_then ready left (x ∷ xs) ys [] ts one two = absurd one
whole_then ready left (x ∷ xs) ys (s ∷ ss) ts one two = (one.0, whole_then (without_first x.name ready) left xs ys ss ts one.1 two)

ready_then : {I : Type 0} (ready : Ready I) (xs ys : List Input) → ready_after ys (ready_after xs ready) ≡ ready_after (xs ++ ys) ready
ready_then ready [] ys = refl
ready_then ready (x ∷ xs) ys = ready_then (without_first x.name ready) xs ys

pub none_back : {T I O : Type 0} (h : Told T I O) (left : I → Option (List ℕ)) (old new : T) → h.sources_back new ≡ h.sources_back old → ReturnsAll h left old new []
none_back h left old new same = record { sources = []; whole = tt; back = adds_none (h.sources_back old) (h.sources_back new) same }

pub all_then : {T I O : Type 0} (h : Told T I O) (left : I → Option (List ℕ)) (old mid new : T) (xs ys : List Input) →
    ReturnsAll h left old mid xs → h.sources mid ≡ ready_after xs (h.sources old) → ReturnsAll h left mid new ys → ReturnsAll h left old new (xs ++ ys)
all_then h left old mid new xs ys one ready two = record {
  sources = one.sources ++ two.sources;
  whole = whole_then (h.sources old) left xs ys one.sources two.sources one.whole (subst (λ r. AreReadWhole r left ys two.sources) ready two.whole);
  back = adds_then one.sources two.sources (h.sources_back old) (h.sources_back mid) (h.sources_back new) one.back two.back;
}

up_to_then : {T I O : Type 0} (h : Told T I O) (left : I → Option (List ℕ)) (old mid new : T) (xs before : List Input) (i : Input) (n : ℕ) →
    ReturnsAll h left old mid xs → h.sources mid ≡ ready_after xs (h.sources old) → ReturnsUpTo h left mid new before i n → ReturnsUpTo h left old new (xs ++ before) i n
up_to_then h left old mid new xs before i n one ready two = record {
  sources = one.sources ++ two.sources;
  last = two.last;
  whole = whole_then (h.sources old) left xs before one.sources two.sources one.whole (subst (λ r. AreReadWhole r left before two.sources) ready two.whole);
  read = subst (λ r. IsReadFor r left i.name n two.last) (ap (ready_after before) ready ∙ ready_then (h.sources old) xs before) two.read;
  back = subst (λ ss. Adds ss (h.sources_back old) (h.sources_back new)) (sym (append_assoc one.sources two.sources (two.last ∷ [])))
      (adds_then one.sources (two.sources ++ two.last ∷ []) (h.sources_back old) (h.sources_back mid) (h.sources_back new) one.back two.back);
}

-- inputs around one of some in their middle
around : (xs ys before after rest : List Input) (i : Input) → ys ≡ before ++ i ∷ after → xs ++ (ys ++ rest) ≡ (xs ++ before) ++ i ∷ (after ++ rest)
around xs ys before after rest i is = ap (λ these. xs ++ (these ++ rest)) is ∙ ap (λ these. xs ++ these) (append_assoc before (i ∷ after) rest) ∙ sym (append_assoc xs before (i ∷ (after ++ rest)))

some_then : {T I O : Type 0} (h : Told T I O) (left : I → Option (List ℕ)) (old mid new : T) (xs ys rest : List Input) →
    ReturnsAll h left old mid xs → h.sources mid ≡ ready_after xs (h.sources old) → ReturnsSome h left mid new ys → ReturnsSome h left old new (xs ++ (ys ++ rest))
some_then h left old mid new xs ys rest one ready (inl all) = inl (
  xs ++ all.0,
  all.1 ++ rest,
  ap (λ these. xs ++ (these ++ rest)) all.2 ∙ ap (λ these. xs ++ these) (append_assoc all.0 all.1 rest) ∙ sym (append_assoc xs all.0 (all.1 ++ rest)),
  all_then h left old mid new xs all.0 one ready all.3,
)
some_then h left old mid new xs ys rest one ready (inr part) = inr (
  xs ++ part.0,
  part.1,
  part.2 ++ rest,
  part.3,
  around xs ys part.0 part.2 rest part.1 part.4,
  part.5,
  up_to_then h left old mid new xs part.0 part.1 part.3 one ready part.6,
)

-- the reading ends at an input
pub ends_back : {T I O V : Type 0} (W : Type 0) (h : Told T I O) (left : I → Option (List ℕ)) (old mid new : T) (before after : List Input) (i : Input) (bytes : V → List ℕ) (e : Failure) →
    ReturnsAll h left old mid before → h.sources mid ≡ ready_after before (h.sources old) → Reading h left mid new i bytes (Err e) → Returns {V = V} h left mid new (i ∷ []) (Err e) →
    Returns {V = W} h left old new (before ++ i ∷ after) (Err e)
ends_back W h left old mid new before after i bytes (failed.Words n) all ready reading last = absurd reading
ends_back W h left old mid new before after i bytes (failed.TooLong option) all ready reading last = (
  before ++ last.0,
  last.1,
  last.2 ++ after,
  around before (i ∷ []) last.0 last.2 after last.1 last.3,
  last.4,
  up_to_then h left old mid new before last.0 last.1 (last.1.limit + 1) all ready last.5,
)
ends_back W h left old mid new before after i bytes (failed.Refused refusal) all ready reading last = absurd reading
ends_back W h left old mid new before after i bytes failed.Read all ready reading last = some_then h left old mid new before (i ∷ []) after all ready last
ends_back W h left old mid new before after i bytes failed.Write all ready reading last = absurd reading
ends_back W h left old mid new before after i bytes failed.Memory all ready reading last = some_then h left old mid new before (i ∷ []) after all ready last

-- an input was read, and there is no room for its text
pub no_room_back : {T I O : Type 0} (h : Told T I O) (left : I → Option (List ℕ)) (old mid new : T) (before after : List Input) (i : Input) →
    ReturnsAll h left old mid before → h.sources mid ≡ ready_after before (h.sources old) → ReturnsAll h left mid new (i ∷ []) → ReturnsSome h left old new (before ++ i ∷ after)
no_room_back h left old mid new before after i all ready last = some_then h left old mid new before (i ∷ []) after all ready (inl (i ∷ [], [], refl, last))

-- ---- of a whole job

-- nothing more is given back
pub all_since : {T I O : Type 0} (h : Told T I O) (left : I → Option (List ℕ)) (old mid new : T) (inputs : List Input) → ReturnsAll h left old mid inputs → h.sources_back new ≡ h.sources_back mid → ReturnsAll h left old new inputs
all_since h left old mid new inputs all same = record { sources = all.sources; whole = all.whole; back = same ∙ all.back }

pub all_some : {T I O : Type 0} (h : Told T I O) (left : I → Option (List ℕ)) (old new : T) (inputs : List Input) → ReturnsAll h left old new inputs → ReturnsSome h left old new inputs
all_some h left old new inputs all = inl (inputs, [], sym (append-nil inputs), all)

-- what is given back, whatever is read into
pub returns_as : {T I O : Type 0} (V W : Type 0) (h : Told T I O) (left : I → Option (List ℕ)) (old new : T) (inputs : List Input) (e : Failure) → Returns {V = V} h left old new inputs (Err e) → Returns {V = W} h left old new inputs (Err e)
returns_as V W h left old new inputs (failed.Words n) back = back
returns_as V W h left old new inputs (failed.TooLong option) back = back
returns_as V W h left old new inputs (failed.Refused refusal) back = back
returns_as V W h left old new inputs failed.Read back = back
returns_as V W h left old new inputs failed.Write back = back
returns_as V W h left old new inputs failed.Memory back = back

-- all inputs were read, and planning failed
pub planning_back : {T I O : Type 0} (V : Type 0) (h : Told T I O) (left : I → Option (List ℕ)) (old new : T) (inputs : List Input) (gives : Done → List ℕ → Type 0) (refuses : Refusal → Type 0) (e : Failure) →
    ReturnsAll h left old new inputs → Plans gives refuses (Err e) → Returns {V = V} h left old new inputs (Err e)
planning_back V h left old new inputs gives refuses (failed.Words n) all plans = absurd plans
planning_back V h left old new inputs gives refuses (failed.TooLong option) all plans = absurd plans
planning_back V h left old new inputs gives refuses (failed.Refused refusal) all plans = all
planning_back V h left old new inputs gives refuses failed.Read all plans = absurd plans
planning_back V h left old new inputs gives refuses failed.Write all plans = absurd plans
planning_back V h left old new inputs gives refuses failed.Memory all plans = all_some h left old new inputs all

-- all inputs were read, and writing the output failed
pub writing_back : {T I O : Type 0} (V : Type 0) (h : Told T I O) (left : I → Option (List ℕ)) (taken : O → Option (List ℕ)) (old mid new : T) (inputs : List Input) (output : Option (List ℕ)) (bytes : List ℕ) (e : Failure) →
    ReturnsAll h left old mid inputs → h.sources_back new ≡ h.sources_back mid → Writing h taken mid new output bytes (Err e) → Returns {V = V} h left old new inputs (Err e)
writing_back V h left taken old mid new inputs output bytes (failed.Words n) all same writing = absurd writing
writing_back V h left taken old mid new inputs output bytes (failed.TooLong option) all same writing = absurd writing
writing_back V h left taken old mid new inputs output bytes (failed.Refused refusal) all same writing = absurd writing
writing_back V h left taken old mid new inputs output bytes failed.Read all same writing = all_some h left old new inputs (all_since h left old mid new inputs all same)
writing_back V h left taken old mid new inputs output bytes failed.Write all same writing = all_since h left old mid new inputs all same
writing_back V h left taken old mid new inputs output bytes failed.Memory all same writing = all_some h left old new inputs (all_since h left old mid new inputs all same)

-- however the work ends, some first inputs are given back
pub returns_some : {T I O V : Type 0} (h : Told T I O) (left : I → Option (List ℕ)) (old new : T) (inputs : List Input) (r : Result V Failure) → Returns h left old new inputs r → ReturnsSome h left old new inputs
returns_some h left old new inputs (Ok v) back = all_some h left old new inputs back
returns_some h left old new inputs (Err (failed.Words n)) back = inl ([], inputs, refl, none_back h left old new back)
returns_some h left old new inputs (Err (failed.TooLong option)) back = inr (back.0, back.1, back.2, back.1.limit + 1, back.3, omega arith, back.5)
returns_some h left old new inputs (Err (failed.Refused refusal)) back = all_some h left old new inputs back
returns_some h left old new inputs (Err failed.Read) back = back
returns_some h left old new inputs (Err failed.Write) back = all_some h left old new inputs back
returns_some h left old new inputs (Err failed.Memory) back = back
