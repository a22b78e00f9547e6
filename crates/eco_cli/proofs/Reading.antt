-- Inputs that are read one after another.
use Rattle.std.proofs.Common.{◌≡◌, ℕ, ◌+◌, ◌<◌, ◌≤◌, inl, inr, List, [], ◌∷◌, ◌++◌, length, map, take, drop, get_or, Option, Some, None, Ok, Err, refl, ap, sym, subst, ◌∙◌, append_assoc, append-nil, arith}
use Rattle.std.specs.Option.{option_map}
use Rattle.std.specs.List.{flat_map}
use Rattle.std.proofs.lemmas.List.{map-append, take_more, drop_more, take-append-drop}
use Rattle.std.proofs.lemmas.List.Concat.{flat_map-append}
use Rattle.std.proofs.lemmas.List.Folds.{flat_map-map}
use Rattle.std.proofs.Math.Seq.{take-append-add}
use Rattle.eco_common.specs.Causes.{Rose}
use Rattle.eco_cli.specs.CommandLine.{inputs_in, input_at, listed_of, value_of}
use Rattle.eco_cli.specs.Ending.{IsText, IsRead, AreRead, AsksAll, Reaches}
use Rattle.eco_cli.specs.Job.{Input, ready_after, source_opens}
use Rattle.eco_cli.specs.Opens.{Told, Ready, Asked, Settled, Adds, for_source, without_first, with_asked}
use Rattle.eco_cli.specs.Steps.{Reading, ReadingAll, HaveRead}
use Rattle.eco_cli.specs.declared.command_option.CommandOption.{CommandOption}
use Rattle.eco_cli.specs.declared.command_option.OptionKind.TheVariants as kind
use Rattle.eco_cli.specs.declared.failure.Failure.{Failure}
use Rattle.eco_cli.specs.declared.failure.Failure.TheVariants as failed

-- ---- what was asked

pub adds_none : {A : Type 0} (old new : Option (List A)) → new ≡ old → Adds [] old new
adds_none None new is = is
adds_none (Some before) new is = is ∙ ap Some (sym (append-nil before))

pub adds_then : {A : Type 0} (xs ys : List A) (old mid new : Option (List A)) → Adds xs old mid → Adds ys mid new → Adds (xs ++ ys) old new
adds_then xs ys None mid new one two = two ∙ ap (λ a. option_map (λ b. b ++ ys) a) one
adds_then xs ys (Some before) mid new one two = two ∙ ap (λ a. option_map (λ b. b ++ ys) a) one ∙ ap Some (append_assoc before xs ys)

-- some first opens of a list
pub asks_front : (xs ys : List Asked) (n : ℕ) (old new : Option (List Asked)) → AsksAll (xs ++ take n ys) old new → AsksAll (take (length xs + n) (xs ++ ys)) old new
asks_front xs ys n old new asked = subst (λ opens. AsksAll opens old new) (sym (take-append-add xs ys n)) asked

asks_one : (before : List Input) (i : Input) (old mid new : Option (List Asked)) → AsksAll (source_opens before) old mid → new ≡ with_asked mid (for_source i.name) → AsksAll (source_opens (before ++ i ∷ [])) old new
asks_one before i old mid new one two =
    subst (λ opens. AsksAll opens old new) (sym (map-append (λ j. for_source j.name) before (i ∷ []))) (adds_then (source_opens before) (for_source i.name ∷ []) old mid new one two)

-- the inputs before one, that one if it was asked, and no more
asks_up_to : (before behind : List Input) (i : Input) (n : ℕ) (old new : Option (List Asked)) → AsksAll (source_opens before ++ take n (source_opens (i ∷ behind))) old new →
    (k : ℕ) × AsksAll (take k (source_opens (before ++ i ∷ behind))) old new
asks_up_to before behind i n old new asked = (
  length (source_opens before) + n,
  subst (λ opens. AsksAll (take (length (source_opens before) + n) opens) old new) (sym (map-append (λ j. for_source j.name) before (i ∷ behind)))
      (asks_front (source_opens before) (source_opens (i ∷ behind)) n old new asked),
)

-- ---- what was read

read_one : {I : Type 0} (ready : Ready I) (left : I → Option (List ℕ)) (before : List Input) (texts : List (List ℕ)) (i : Input) (t : List ℕ) →
    AreRead ready left before texts → IsRead (ready_after before ready) left i.name t → length t ≤ i.limit → AreRead ready left (before ++ i ∷ []) (texts ++ t ∷ [])
read_one ready left [] [] i t read is short = (is, short, tt)
read_one ready left [] (x ∷ xs) i t read is short = absurd read
read_one ready left (b ∷ bs) [] i t read is short = absurd read
read_one ready left (b ∷ bs) (x ∷ xs) i t read is short = (read.0, read.1, read_one (without_first b.name ready) left bs xs i t read.2 is short)

ready_one : {I : Type 0} (ready : Ready I) (before : List Input) (i : Input) → without_first i.name (ready_after before ready) ≡ ready_after (before ++ i ∷ []) ready
ready_one ready [] i = refl
ready_one ready (b ∷ bs) i = ready_one (without_first b.name ready) bs i

pub one_more : {T I O V : Type 0} (h : Told T I O) (left : I → Option (List ℕ)) (old mid new : T) (before : List Input) (texts : List (List ℕ)) (i : Input) (bytes : V → List ℕ) (v : V) →
    HaveRead h left old mid before texts → Reading h left mid new i bytes (Ok v) → HaveRead h left old new (before ++ i ∷ []) (texts ++ bytes v ∷ [])
one_more h left old mid new before texts i bytes v have reading = record {
  read = read_one (h.sources old) left before texts i (bytes v) have.read (subst (λ r. IsRead r left i.name (bytes v)) have.rest reading.0) reading.1;
  asked = asks_one before i (h.asked old) (h.asked mid) (h.asked new) have.asked reading.2;
  rest = reading.3 ∙ ap (without_first i.name) have.rest ∙ ready_one (h.sources old) before i;
  refused = reading.4 ∙ have.refused;
}

pub rose_since : (a b c : ℕ) → a ≤ b → Rose b c → Rose a c
rose_since a b c before rose = omega arith

reaches : {T I O : Type 0} (h : Told T I O) (left : I → Option (List ℕ)) (old mid new : T) (before behind : List Input) (texts : List (List ℕ)) (i : Input) →
    HaveRead h left old mid before texts → h.asked new ≡ with_asked (h.asked mid) (for_source i.name) → Reaches h left old new (before ++ i ∷ behind) before i
reaches h left old mid new before behind texts i have asked =
    record { behind = behind; order = refl; texts = texts; read = have.read; asked = asks_one before i (h.asked old) (h.asked mid) (h.asked new) have.asked asked }

-- the reading ends at an input
pub stops_at : {T I O V W : Type 0} (h : Told T I O) (left : I → Option (List ℕ)) (old mid new : T) (before behind : List Input) (texts : List (List ℕ)) (i : Input) (bytes : V → List ℕ) (all : W → List (List ℕ)) (e : Failure) →
    Settled h old mid → HaveRead h left old mid before texts → Reading h left mid new i bytes (Err e) → ReadingAll h left old new (before ++ i ∷ behind) all (Err e)
stops_at h left old mid new before behind texts i bytes all (failed.Words n) settled have reading = absurd reading
stops_at h left old mid new before behind texts i bytes all (failed.TooLong option) settled have reading = (
  before,
  i,
  reaches h left old mid new before behind texts i have reading.2,
  reading.0,
  λ text told. reading.1 text (subst (λ r. IsText r left i.name text) (sym have.rest) told),
  reading.3 ∙ have.refused,
)
stops_at h left old mid new before behind texts i bytes all (failed.Refused refusal) settled have reading = absurd reading
stops_at h left old mid new before behind texts i bytes all failed.Read settled have reading = (
  before,
  i,
  reaches h left old mid new before behind texts i have reading.1,
  elim reading.0 [
    | inl refused ↦ inl (rose_since (h.refused old) (h.refused mid) (h.refused new) settled.refusals refused)
    | inr failed ↦ inr (rose_since (h.read_faults old) (h.read_faults mid) (h.read_faults new) settled.read_faults failed)
  ],
)
stops_at h left old mid new before behind texts i bytes all failed.Write settled have reading = absurd reading
stops_at h left old mid new before behind texts i bytes all failed.Memory settled have reading = (
  elim reading.0 [
    | inl none ↦ asks_up_to before behind i 0 (h.asked old) (h.asked new) (adds_then (source_opens before) [] (h.asked old) (h.asked mid) (h.asked new) have.asked (adds_none (h.asked mid) (h.asked new) none))
    | inr one ↦ asks_up_to before behind i 1 (h.asked old) (h.asked new) (adds_then (source_opens before) (for_source i.name ∷ []) (h.asked old) (h.asked mid) (h.asked new) have.asked one)
  ],
  reading.1 ∙ have.refused,
)

-- an input was read, and there is no room for its text
pub no_room : {T I O V W : Type 0} (h : Told T I O) (left : I → Option (List ℕ)) (old mid new : T) (before behind : List Input) (texts : List (List ℕ)) (i : Input) (bytes : V → List ℕ) (v : V) (all : W → List (List ℕ)) →
    HaveRead h left old mid before texts → Reading h left mid new i bytes (Ok v) → ReadingAll h left old new (before ++ i ∷ behind) all (Err failed.Memory)
no_room h left old mid new before behind texts i bytes v all have reading = (
  asks_up_to before behind i 1 (h.asked old) (h.asked new) (adds_then (source_opens before) (for_source i.name ∷ []) (h.asked old) (h.asked mid) (h.asked new) have.asked reading.2),
  reading.4 ∙ have.refused,
)

-- ---- the inputs of a table

abbrev pub inputs_of : List (List ℕ) → List CommandOption → List Input
inputs_of ws os = flat_map (λ o. input_at o.kind o.word.now ws) os

pub inputs_listed : (ws : List (List ℕ)) (os : List CommandOption) → inputs_in (map listed_of os) ws ≡ inputs_of ws os
inputs_listed ws os = flat_map-map (λ o. input_at o.kind o.word ws) listed_of os

-- up to an option
pub inputs_up_to : (ws : List (List ℕ)) (os : List CommandOption) (k : ℕ) (d : CommandOption) → k < length os →
    inputs_of ws (take (k + 1) os) ≡ inputs_of ws (take k os) ++ input_at (get_or os k d).kind (get_or os k d).word.now ws
inputs_up_to ws os k d lt =
    let f : CommandOption → List Input = λ o. input_at o.kind o.word.now ws in
    ap (inputs_of ws) (take_more os k d lt) ∙ flat_map-append f (take k os) (get_or os k d ∷ []) ∙ ap (λ is. inputs_of ws (take k os) ++ is) (append-nil (f (get_or os k d)))

-- all, where one of them names an input
pub inputs_around : (ws : List (List ℕ)) (os : List CommandOption) (k : ℕ) (d : CommandOption) (i : Input) → k < length os → input_at (get_or os k d).kind (get_or os k d).word.now ws ≡ i ∷ [] →
    inputs_of ws (take k os) ++ i ∷ inputs_of ws (drop (k + 1) os) ≡ inputs_in (map listed_of os) ws
inputs_around ws os k d i lt names =
    let f : CommandOption → List Input = λ o. input_at o.kind o.word.now ws in
    ap (λ is. inputs_of ws (take k os) ++ is) (ap (λ is. is ++ inputs_of ws (drop (k + 1) os)) (sym names))
    ∙ ap (λ rest. inputs_of ws (take k os) ++ inputs_of ws rest) (sym (drop_more os k d lt))
    ∙ sym (flat_map-append f (take k os) (drop k os))
    ∙ ap (inputs_of ws) (take-append-drop k os)
    ∙ sym (inputs_listed ws os)

pub input_is : (o : CommandOption) (ws : List (List ℕ)) (limit : ℕ) (name : List ℕ) → o.kind ≡ kind.Input limit → name ≡ value_of ws o.word.now →
    input_at o.kind o.word.now ws ≡ record { option = o.word.now; name = name; limit = limit } ∷ []
input_is o ws limit name is named = rw (is, named) refl

pub settled_then : {T I O : Type 0} (h : Told T I O) (old mid new : T) → Settled h old mid → Settled h mid new → Settled h old new
settled_then h old mid new one two = record {
  refusals = omega (arith, one.refusals, two.refusals);
  read_faults = omega (arith, one.read_faults, two.read_faults);
  write_faults = omega (arith, one.write_faults, two.write_faults);
  open_sources = two.open_sources ∙ one.open_sources;
  open_sinks = two.open_sinks ∙ one.open_sinks;
}

pub have_as : {T I O : Type 0} (h : Told T I O) (left : I → Option (List ℕ)) (old new : T) (these those : List Input) (texts others : List (List ℕ)) → these ≡ those → texts ≡ others → HaveRead h left old new these texts → HaveRead h left old new those others
have_as h left old new these those texts others inputs read have = subst (λ ts. HaveRead h left old new those ts) read (subst (λ is. HaveRead h left old new is texts) inputs have)

-- all inputs were read
pub all_read : {T I O : Type 0} (h : Told T I O) (left : I → Option (List ℕ)) (old new : T) (inputs : List Input) (texts : List (List ℕ)) → HaveRead h left old new inputs texts →
    AreRead (h.sources old) left inputs texts × AsksAll (source_opens inputs) (h.asked old) (h.asked new) × (h.refused new ≡ h.refused old)
all_read h left old new inputs texts have = (have.read, have.asked, have.refused)
