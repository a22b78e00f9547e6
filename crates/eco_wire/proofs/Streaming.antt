-- Readings of longer bytes, and the streams that links read.
use Rattle.std.proofs.Common.{◌≡◌, ℕ, ◌+◌, ◌-◌, ◌<◌, ◌≤◌, ⊎_elim, inl, inr, Bool, true, false, nat_lt, List, [], ◌∷◌, ◌++◌, length, take, drop, length-append, append_assoc, append-nil, refl, sym, ap, ◌∙◌, subst, arith, ltb-true, Option, Some, None}
use Rattle.std.specs.Prelude.{if◌then◌else◌, codes, MatchOption, ⊤}
use Rattle.std.specs.List.{concat}
use Rattle.std.proofs.lemmas.Bool.{ltb-false, false_from_ne_true}
use Rattle.std.proofs.lemmas.List.{take-append-le, drop-append-le, take-append-drop}
use Rattle.std.proofs.Math.Seq.{take-length}
use Rattle.httparse.specs.Grammar.{RequestHead, print_request, ReadsRequest, NeverHasRequest}
use Rattle.httparse.specs.Spans.{RequestOverflows}
use Rattle.httparse.proofs.GrammarLemmas.{ReadsRequest-append, request_unique}
use Rattle.eco_wire.specs.Lines.{values_of, content_length_of}
use Rattle.eco_wire.specs.Heads.{Head, Message, Reading, unfinished, whole, broken, head_of, method_of, closes, with_body, with_length, answer_to}
use Rattle.eco_wire.specs.Requests.{BeginsWith, HasNoHead, GivesUp, Headless, IsNext}
use Rattle.eco_wire.specs.Streams.{IsSettled, IsNoRequest, End, ended, closed, refused, full, end_after, Stops, IsStream, Takes, StopsAt, IsLink, IsHeadStatus, EndAlike, ReadingsStay, ReadingsAreOne, LinksReadStreams, PiecesDontMatter}
use Rattle.eco_wire.specs.declared.fields.ContentLength.{ContentLength}
use Rattle.eco_wire.specs.declared.fields.ContentLength.TheVariants.{Missing, Bytes, Unreadable}
use Rattle.eco_wire.proofs.Feeds.{feeds-append}

-- ---- the answer to a whole head

abbrev pub body_at : Head → ℕ → List ℕ → Bool → Bool → Reading
body_at h n behind big short =
    if big then broken 413
    else if short then unfinished
    else whole (record {
      method = method_of h.method;
      target = h.target;
      body = take n behind;
      close = closes h;
      used = h.size + n;
    })

not_short : (n : ℕ) (behind more : List ℕ) → nat_lt (length behind) n ≡ false → nat_lt (length (behind ++ more)) n ≡ false
not_short n behind more long =
    let here : n ≤ length behind = ltb-false _ _ long in
    false_from_ne_true _ (λ short. absurd (let less : length (behind ++ more) < n = ltb-true _ _ short in omega (arith, length-append behind more)))

body_stays : (h : Head) (n : ℕ) (behind more : List ℕ) (big short : Bool) → nat_lt (length behind) n ≡ short
    → IsSettled (body_at h n behind big short)
    → body_at h n (behind ++ more) big (nat_lt (length (behind ++ more)) n) ≡ body_at h n behind big short
body_stays h n behind more true short is settled = refl
body_stays h n behind more false true is settled = absurd settled
body_stays h n behind more false false is settled =
    let here : n ≤ length behind = ltb-false _ _ is in
    ap (body_at h n (behind ++ more) false) (not_short n behind more is)
    ∙ ap (λ body. whole (record {
      method = method_of h.method;
      target = h.target;
      body = body;
      close = closes h;
      used = h.size + n;
    })) (take-append-le n behind more here)

with_body_stays : (h : Head) (n : ℕ) (behind more : List ℕ) → IsSettled (with_body h n behind)
    → with_body h n (behind ++ more) ≡ with_body h n behind
with_body_stays h n behind more settled = body_stays h n behind more _ _ refl settled

abbrev pub missing_at : Head → Bool → List ℕ → Reading
missing_at h post behind = if post then broken 411 else with_body h 0 behind

missing_stays : (h : Head) (post : Bool) (behind more : List ℕ) → IsSettled (missing_at h post behind)
    → missing_at h post (behind ++ more) ≡ missing_at h post behind
missing_stays h true behind more settled = refl
missing_stays h false behind more settled = with_body_stays h 0 behind more settled

with_length_stays : (h : Head) (stated : ContentLength) (behind more : List ℕ) → IsSettled (with_length h stated behind)
    → with_length h stated (behind ++ more) ≡ with_length h stated behind
with_length_stays h Unreadable behind more settled = refl
with_length_stays h Missing behind more settled = missing_stays h _ behind more settled
with_length_stays h (Bytes n) behind more settled = with_body_stays h n behind more settled

abbrev pub coded_at : Head → Bool → List ℕ → Reading
coded_at h coded behind =
    if coded then broken 501
    else with_length h (content_length_of (values_of (codes "content-length") h.lines)) behind

coded_stays : (h : Head) (coded : Bool) (behind more : List ℕ) → IsSettled (coded_at h coded behind)
    → coded_at h coded (behind ++ more) ≡ coded_at h coded behind
coded_stays h true behind more settled = refl
coded_stays h false behind more settled = with_length_stays h (content_length_of (values_of (codes "content-length") h.lines)) behind more settled

answer_stays : (h : Head) (behind more : List ℕ) → IsSettled (answer_to h behind)
    → answer_to h (behind ++ more) ≡ answer_to h behind
answer_stays h behind more settled = coded_stays h _ behind more settled

-- ---- heads of longer bytes

begins_stays : (bytes more : List ℕ) (h : RequestHead) (behind : List ℕ) → BeginsWith bytes h behind
    → BeginsWith (bytes ++ more) h (behind ++ more)
begins_stays bytes more h behind begins = record {
  reads = ReadsRequest-append bytes h behind more begins.reads;
  size = begins.size;
  lines = begins.lines;
}

never_stays : (bytes more : List ℕ) → NeverHasRequest bytes → NeverHasRequest (bytes ++ more)
never_stays bytes more never after h rest reads =
    never (more ++ after) h rest (subst (λ s. ReadsRequest s h rest) (append_assoc bytes more after) reads)

never_no_head : (bytes more : List ℕ) → NeverHasRequest bytes → HasNoHead (bytes ++ more)
never_no_head bytes more never h behind begins = never more h behind begins.reads

overflows_stay : (bytes more : List ℕ) → RequestOverflows 64 bytes → RequestOverflows 64 (bytes ++ more)
overflows_stay bytes more over after h rest reads =
    over (more ++ after) h rest (subst (λ s. ReadsRequest s h rest) (append_assoc bytes more after) reads)

overflows_no_head : (bytes more : List ℕ) → RequestOverflows 64 bytes → HasNoHead (bytes ++ more)
overflows_no_head bytes more over h behind begins =
    absurd (omega (arith, over more h behind begins.reads, begins.lines))

-- the front of some bytes, where more bytes begin with it
front_of : (xs ys p q : List ℕ) → xs ++ ys ≡ p ++ q → length p ≤ length xs → xs ≡ p ++ drop (length p) xs
front_of xs ys p q same within =
    let front : take (length p) xs ≡ p =
    sym (take-append-le (length p) xs ys within) ∙ (ap (take (length p)) same ∙ (take-append-le (length p) p q (omega arith) ∙ take-length p)) in
    sym (take-append-drop (length p) xs) ∙ ap (λ t. t ++ drop (length p) xs) front

long_no_head : (bytes more : List ℕ) → 16384 ≤ length bytes → HasNoHead bytes → HasNoHead (bytes ++ more)
long_no_head bytes more long none h behind begins =
    let p = print_request h in
    let within : length p ≤ length bytes = omega (arith, begins.size) in
    none h (drop (length p) bytes) (record {
      reads = (begins.reads.0, front_of bytes more p behind begins.reads.1 within);
      size = begins.size;
      lines = begins.lines;
    })

gives_up_stays : (bytes more : List ℕ) (status : ℕ) → HasNoHead bytes → GivesUp bytes status
    → HasNoHead (bytes ++ more) × GivesUp (bytes ++ more) status
gives_up_stays bytes more status none (inl (is, never)) = (never_no_head bytes more never, inl (is, never_stays bytes more never))
gives_up_stays bytes more status none (inr (is, inl lines)) = (
  overflows_no_head bytes more lines.overflows,
  inr (
    is,
    inl (record {
      feeds = omega (arith, lines.feeds, feeds-append bytes more);
      overflows = overflows_stay bytes more lines.overflows;
    }),
  ),
)
gives_up_stays bytes more status none (inr (is, inr long)) = (
  long_no_head bytes more long none,
  inr (is, inr (omega (arith, length-append bytes more))),
)

headless_stays : (bytes more : List ℕ) (reading : Reading) → IsSettled reading → HasNoHead bytes → Headless bytes reading
    → HasNoHead (bytes ++ more) × Headless (bytes ++ more) reading
headless_stays bytes more unfinished settled none is = absurd settled
headless_stays bytes more (whole m) settled none is = absurd is
headless_stays bytes more (broken status) settled none is = gives_up_stays bytes more status none is

pub readings_stay : ReadingsStay
readings_stay bytes more reading settled (inl (h, behind, begins, is)) =
    inl (
      h,
      behind ++ more,
      begins_stays bytes more h behind begins,
      is ∙ sym (answer_stays (head_of h) behind more (subst IsSettled is settled)),
    )
readings_stay bytes more reading settled (inr (none, is)) = inr (headless_stays bytes more reading settled none is)

-- ---- one reading

no_request : (bytes : List ℕ) (a : Reading) → Headless bytes a → IsNoRequest a
no_request bytes unfinished is = tt
no_request bytes (whole m) is = absurd is
no_request bytes (broken status) is = tt

pub readings_are_one : ReadingsAreOne
readings_are_one bytes a b (inl (h, behind, begins, is)) (inl (k, after, starts, was)) =
    let same = request_unique bytes h k behind after begins.reads starts.reads in
    inl (is ∙ (ap (λ x. answer_to (head_of x) behind) same.0 ∙ (ap (answer_to (head_of k)) same.1 ∙ sym was)))
readings_are_one bytes a b (inl (h, behind, begins, is)) (inr (none, was)) = absurd (none h behind begins)
readings_are_one bytes a b (inr (none, is)) (inl (k, after, starts, was)) = absurd (none k after starts)
readings_are_one bytes a b (inr (none, is)) (inr (other, was)) = inr (none, no_request bytes a is, no_request bytes b was)

-- ---- the bytes of a request

abbrev pub UsesWithin : ℕ → Reading → Type 0
UsesWithin most unfinished = ⊤
UsesWithin most (whole m) = m.used ≤ most
UsesWithin most (broken status) = ⊤

body_within : (h : Head) (n : ℕ) (behind : List ℕ) (big short : Bool) → nat_lt (length behind) n ≡ short
    → UsesWithin (h.size + length behind) (body_at h n behind big short)
body_within h n behind true short is = tt
body_within h n behind false true is = tt
body_within h n behind false false is = let here : n ≤ length behind = ltb-false _ _ is in omega arith

with_body_within : (h : Head) (n : ℕ) (behind : List ℕ) → UsesWithin (h.size + length behind) (with_body h n behind)
with_body_within h n behind = body_within h n behind _ _ refl

missing_within : (h : Head) (post : Bool) (behind : List ℕ) → UsesWithin (h.size + length behind) (missing_at h post behind)
missing_within h true behind = tt
missing_within h false behind = with_body_within h 0 behind

with_length_within : (h : Head) (stated : ContentLength) (behind : List ℕ)
    → UsesWithin (h.size + length behind) (with_length h stated behind)
with_length_within h Unreadable behind = tt
with_length_within h Missing behind = missing_within h _ behind
with_length_within h (Bytes n) behind = with_body_within h n behind

coded_within : (h : Head) (coded : Bool) (behind : List ℕ) → UsesWithin (h.size + length behind) (coded_at h coded behind)
coded_within h true behind = tt
coded_within h false behind = with_length_within h (content_length_of (values_of (codes "content-length") h.lines)) behind

-- a whole request lies within the bytes
pub used_within : (bytes : List ℕ) (m : Message) → IsNext bytes (whole m) → m.used ≤ length bytes
used_within bytes m (inl (h, behind, begins, is)) =
    let size : length bytes ≡ length (print_request h) + length behind =
    ap length begins.reads.1 ∙ length-append (print_request h) behind in
    let most = length (print_request h) + length behind in
    let within : m.used ≤ most = subst (UsesWithin most) (sym is) (coded_within (head_of h) _ behind) in
    omega arith
used_within bytes m (inr (none, is)) = absurd is

-- ---- streams

taken : (held : List ℕ) (pieces : List (List ℕ)) (kept : List ℕ) (rest : List (List ℕ)) → Takes held pieces kept rest
    → held ++ concat pieces ≡ kept ++ concat rest
taken held [] kept rest (same, all) = cc
taken held (piece ∷ pieces) kept rest (inl (same, all)) = cc
taken held (piece ∷ pieces) kept rest (inr later) =
    sym (append_assoc held piece (concat pieces)) ∙ taken (held ++ piece) pieces kept rest later

stop_stays : (kept : List ℕ) (rest : List (List ℕ)) (end : End) → StopsAt kept rest end → Stops (kept ++ concat rest) end
stop_stays kept rest (ended left) (last, stop) =
    let all : kept ≡ kept ++ concat rest = sym (append-nil kept) ∙ ap (λ r. kept ++ concat r) (sym last) in
    subst (λ b. Stops b (ended left)) all stop
stop_stays kept rest closed stop = absurd stop
stop_stays kept rest (refused status) stop = readings_stay kept (concat rest) (broken status) tt stop
stop_stays kept rest full stop = absurd stop

pub on_none : {A B : Type 0} (Q : End → Type 0) (e : Option End) → (A → B) → MatchOption e A Q → MatchOption e B Q
on_none Q None go a = go a
on_none Q (Some last) go q = q

pub link_stream : (room : ℕ) (held : List ℕ) (pieces : List (List ℕ)) (ms : List Message) (end : End)
    → IsLink room held pieces ms end → IsStream room (held ++ concat pieces) ms end
link_stream room held pieces [] end (kept, rest, takes, stop) =
    subst (λ b. Stops b end) (sym (taken held pieces kept rest takes)) (stop_stays kept rest end stop)
link_stream room held pieces (m ∷ ms) end (kept, rest, takes, next, later) =
    let behind : drop m.used kept ++ concat rest ≡ drop m.used (kept ++ concat rest) =
    sym (drop-append-le m.used kept (concat rest) (used_within kept m next)) in
    let on : IsLink (room - 1) (drop m.used kept) rest ms end → IsStream (room - 1) (drop m.used (kept ++ concat rest)) ms end =
    λ link. subst (λ b. IsStream (room - 1) b ms end) behind (link_stream (room - 1) (drop m.used kept) rest ms end link) in
    subst (λ b. IsStream room b (m ∷ ms) end) (sym (taken held pieces kept rest takes)) (
      readings_stay kept (concat rest) (whole m) tt next,
      on_none (λ last. (ms ≡ []) × (end ≡ last)) (end_after room m) on later,
    )

pub links_read_streams : LinksReadStreams
links_read_streams room pieces ms end link = link_stream room [] pieces ms end link

-- ---- one stream

head_status : (bytes : List ℕ) (status : ℕ) → HasNoHead bytes → IsNext bytes (broken status) → IsHeadStatus status
head_status bytes status none (inl (h, behind, begins, is)) = absurd (none h behind begins)
head_status bytes status none (inr (also, inl (is, why))) = inl is
head_status bytes status none (inr (also, inr (is, why))) = inr is

stops_alike : (bytes : List ℕ) (a b : End) → Stops bytes a → Stops bytes b → EndAlike a b
stops_alike bytes (ended a) (ended b) (x, left) (y, right) = left ∙ sym right
stops_alike bytes (ended a) (refused t) (x, left) y =
    ⊎_elim (λ same. absurd (cc)) (λ free. head_status bytes t free.0 y) (readings_are_one bytes unfinished (broken t) x y)
stops_alike bytes (refused s) (ended b) x (y, right) =
    ⊎_elim (λ same. absurd (cc)) (λ free. head_status bytes s free.0 x) (readings_are_one bytes (broken s) unfinished x y)
stops_alike bytes (refused s) (refused t) x y =
    ⊎_elim (λ same. inl (cc)) (λ free. inr (head_status bytes s free.0 x, head_status bytes t free.0 y))
    (readings_are_one bytes (broken s) (broken t) x y)
stops_alike bytes closed b x y = absurd x
stops_alike bytes full b x y = absurd x
stops_alike bytes (ended a) closed x y = absurd y
stops_alike bytes (ended a) full x y = absurd y
stops_alike bytes (refused s) closed x y = absurd y
stops_alike bytes (refused s) full x y = absurd y

pub stop_or_request : (bytes : List ℕ) (a : End) (m : Message) → Stops bytes a → IsNext bytes (whole m) → ⊥
stop_or_request bytes (ended left) m (x, is) y =
    ⊎_elim (λ same. cc) (λ free. free.2) (readings_are_one bytes unfinished (whole m) x y)
stop_or_request bytes closed m x y = x
stop_or_request bytes (refused s) m x y =
    ⊎_elim (λ same. cc) (λ free. free.2) (readings_are_one bytes (broken s) (whole m) x y)
stop_or_request bytes full m x y = x

pub same_message : (bytes : List ℕ) (m n : Message) → IsNext bytes (whole m) → IsNext bytes (whole n) → m ≡ n
same_message bytes m n x y = ⊎_elim (λ same. cc) (λ free. absurd free.1) (readings_are_one bytes (whole m) (whole n) x y)

alike_self : (e : End) → EndAlike e e
alike_self (ended left) = refl
alike_self closed = tt
alike_self (refused s) = inl refl
alike_self full = tt

pub one_stream : (room : ℕ) (bytes : List ℕ) (ms ns : List Message) (a b : End)
    → IsStream room bytes ms a → IsStream room bytes ns b → (ms ≡ ns) × EndAlike a b
one_stream room bytes [] [] a b x y = (refl, stops_alike bytes a b x y)
one_stream room bytes [] (n ∷ ns) a b x (next, later) = absurd (stop_or_request bytes a n x next)
one_stream room bytes (m ∷ ms) [] a b (next, later) y = absurd (stop_or_request bytes b m y next)
one_stream room bytes (m ∷ ms) (n ∷ ns) a b (next, later) (other, after) =
    let same = same_message bytes m n next other in
    let after_m = subst (λ x. MatchOption (end_after room x) (IsStream (room - 1) (drop x.used bytes) ns b) (λ last. (ns ≡ []) × (b ≡ last))) (sym same) after in
    let rest : (ms ≡ ns) × EndAlike a b =
    on_both (end_after room m) (one_stream (room - 1) (drop m.used bytes) ms ns a b) later after_m in
    (cc, rest.1)
  where
    on_both : {A B : Type 0} (e : Option End) → (A → B → (ms ≡ ns) × EndAlike a b)
        → MatchOption e A (λ last. (ms ≡ []) × (a ≡ last)) → MatchOption e B (λ last. (ns ≡ []) × (b ≡ last))
        → (ms ≡ ns) × EndAlike a b
    on_both None go x y = go x y
    on_both (Some last) go x y = (x.0 ∙ sym y.0, subst (EndAlike a) (x.1 ∙ sym y.1) (alike_self a))

pub pieces_dont_matter : PiecesDontMatter
pieces_dont_matter room these those ms ns a b same x y =
    one_stream room (concat those) ms ns a b
    (subst (λ bytes. IsStream room bytes ms a) same (links_read_streams room these ms a x)) (links_read_streams room those ns b y)
